-- The places that unfinished deletes speak for, as an operation and the end of a job move them
use Rattle.std.specs.Prelude.{Bool, ◌&&◌, ◌||◌, cond, false, true, ◌≡◌, ◌+◌, ℕ, eqb}
use Rattle.std.proofs.Math.Bool.{and-false, not}
use mathlib.Core.List.{List, [], ◌∷◌}
use Rattle.std.proofs.Common.{◌∙◌, ap, sym, arith, ne_eqb}
use Rattle.std.proofs.Math.Path.{ap₂, refl}
use Rattle.lists.specs.Truth.{by_cond, never, one_if}
use Rattle.strict.specs.Book.{Book, counted, counted_of, deleted, needs_place, others, recover, reserved, reserved_of, spoken_by, spoken_of, step}
use Rattle.strict.specs.Commutativity.{changes}
use Rattle.strict.specs.Histories.{mine, operation}
use Rattle.strict.proofs.Laws.Room.{length_after, room_operation}
use Rattle.strict.proofs.Laws.Soundness.{Elsewhere, elsewhere, member_else, off_tile, seen_alone}
use Rattle.strict.specs.Operations.{Op, Step, apply, begun, clear, inverse, kind, put, recovery, skip, undo}
use Rattle.strict.specs.Sound.{FreeAfter, SoundTable}
use Rattle.strict.specs.Tiles.{Ascending, member}
use Rattle.strict.specs.declared.Procedure.TheVariants.{Del, Ins, Mem}
use Rattle.strict.specs.declared.Procedure.{Procedure}
use Rattle.strict.specs.declared.Rule.TheVariants.{Alone, Together}
use Rattle.strict.specs.declared.Rule.{Rule}

abbrev three : Op → Bool
three u = eqb (kind u.proc u.found) 3

-- an operation: a delete that found its tile speaks for a place, an insert that needs none takes one that was spoken for
pub spoken_operation : (r : Rule) (m : Book) (j sheet : ℕ) (p : Procedure) (k : ℕ) → Ascending m.tiles
    → spoken_by r (step m (operation j sheet p k)).tiles (step m (operation j sheet p k)).table + one_if (eqb (kind p (member k m.tiles)) 1)
    ≡ spoken_by r m.tiles m.table + one_if (needs_place r m.table (begun j p k m.tiles)) + one_if (eqb (kind p (member k m.tiles)) 3)
spoken_operation r m j sheet p k asc =
    let a = room_operation r m j sheet p k asc in
    let b = length_after p (member k m.tiles) k m.tiles asc refl in
    omega arith

-- all of them
pub of_all : (r : Rule) (t : List ℕ) (us : List Op) → spoken_of r (λ u. true) t us ≡ spoken_by r t us
of_all Alone t [] = refl
of_all Alone t (u ∷ us) = ap (λ n. one_if (three u) + n) (of_all Alone t us)
of_all Together t [] = refl
of_all Together t (u ∷ us) = ap (λ n. one_if (three u && not (member u.key t || deleted u.key us)) + n) (of_all Together t us)

-- a delete that found its tile changed it
three_changes : (p : Procedure) (f : Bool) → eqb (kind p f) 3 ≡ true → changes (recovery p f) ≡ true
three_changes Del true e = refl
three_changes Del false e = never (sym e)
three_changes Ins true e = never (sym e)
three_changes Ins false e = never (sym e)
three_changes Mem true e = never (sym e)
three_changes Mem false e = never (sym e)

-- THE END OF A JOB takes away what its operations speak for: on a tile that another's changed none of its own stands
module _ (r : Rule) (j : ℕ) where
  deleted_free : (u : Op) (us : List Op) → FreeAfter r u us → u.done ≡ false → mine j u ≡ false → deleted u.key (others j us) ≡ deleted u.key us
  deleted_free u [] f d a = refl
  deleted_free u (v ∷ us) f d a =
      let ih = deleted_free u us f.1 d a in
      by_cond (λ l. deleted u.key l ≡ deleted u.key (v ∷ us)) (mine j v)
      (λ e. ih ∙ sym (rw (ne_eqb u.key v.key (off_tile r j u v f.0 d a e), and-false)))
      (λ e. ap (λ b. (three v && eqb u.key v.key) || b) ih)

  reserved_end : (us : List Op) → reserved (others j us) + reserved_of (mine j) us ≡ reserved us
  reserved_end [] = refl
  reserved_end (u ∷ us) = go (mine j u) (reserved_end us)
    where
      go : (b : Bool) → reserved (others j us) + reserved_of (mine j) us ≡ reserved us
          → reserved (cond b (others j us) (u ∷ others j us)) + (one_if (b && three u) + reserved_of (mine j) us) ≡ one_if (three u) + reserved us
      go true ih = omega arith
      go false ih = omega arith

  counted_end : (t : List ℕ) (us : List Op) → SoundTable r t us → counted t (others j us) + counted_of (mine j) t us ≡ counted t us
  counted_end t [] s = refl
  counted_end t (u ∷ us) s = go (mine j u) refl (three u) refl (counted_end t us s.1)
    where
      go : (b : Bool) → mine j u ≡ b → (c : Bool) → three u ≡ c → counted t (others j us) + counted_of (mine j) t us ≡ counted t us
          → counted t (cond b (others j us) (u ∷ others j us)) + (one_if (b && (c && not (member u.key t || deleted u.key us))) + counted_of (mine j) t us)
          ≡ one_if (c && not (member u.key t || deleted u.key us)) + counted t us
      go true e c x ih = omega arith
      go false e false x ih = rw x (omega arith)
      go false e true x ih =
          let free = s.0.own_tile (three_changes u.proc u.found x) in
          rw (x, deleted_free u us free s.0.unfinished_entry e) (omega arith)

  -- and its recoveries move no tile of another's delete
  recover_free : (u : Op) (us : List Op) (t : List ℕ) → FreeAfter r u us → u.done ≡ false → mine j u ≡ false → member u.key (recover j us t) ≡ member u.key t
  recover_free u [] t f d a = refl
  recover_free u (v ∷ us) t f d a =
      let ih = recover_free u us t f.1 d a in
      by_cond (λ l. member u.key l ≡ member u.key t) (mine j v)
      (λ e. member_else (inverse v) u.key v.key (recover j us t) (off_tile r j u v f.0 d a e) ∙ ih)
      (λ e. ih)

  counted_else : (a : Step) (k : ℕ) (t : List ℕ) (us : List Op) → Elsewhere k us → counted (apply a k t) us ≡ counted t us
  unfolding Elsewhere
  counted_else a k t [] e = refl
  counted_else a k t (u ∷ us) e =
      ap₂ (λ m n. one_if (three u && not (m || deleted u.key us)) + n) (member_else a u.key k t e.0) (counted_else a k t us e.1)

  counted_undone : (t : List ℕ) (us : List Op) → SoundTable r t us → counted (recover j us t) (others j us) ≡ counted t (others j us)
  counted_undone t [] s = refl
  counted_undone t (u ∷ us) s = go (mine j u) refl (counted_undone t us s.1)
    where
      undone : (x : Step) → (changes x ≡ true → Elsewhere u.key (others j us)) → counted (apply x u.key (recover j us t)) (others j us) ≡ counted (recover j us t) (others j us)
      undone put e = counted_else put u.key (recover j us t) (others j us) (e refl)
      undone clear e = counted_else clear u.key (recover j us t) (others j us) (e refl)
      undone skip e = refl

      go : (b : Bool) → mine j u ≡ b → counted (recover j us t) (others j us) ≡ counted t (others j us)
          → counted (cond b (undo u (recover j us t)) (recover j us t)) (cond b (others j us) (u ∷ others j us)) ≡ counted t (cond b (others j us) (u ∷ others j us))
      go true e ih = undone (inverse u) (λ c. elsewhere r j t u us s.1 (s.0.own_tile c) e) ∙ ih
      go false e ih = ap₂ (λ m n. m + n) (by (three u) refl) ih
        where
          by : (c : Bool) → three u ≡ c → one_if (c && not (member u.key (recover j us t) || deleted u.key (others j us))) ≡ one_if (c && not (member u.key t || deleted u.key (others j us)))
          by false x = refl
          by true x =
              let free = s.0.own_tile (three_changes u.proc u.found x) in
              ap (λ b. one_if (not (b || deleted u.key (others j us)))) (recover_free u us t free s.0.unfinished_entry e)

pub spoken_commit : (r : Rule) (j : ℕ) (t : List ℕ) (us : List Op) → SoundTable r t us → spoken_by r t (others j us) + spoken_of r (mine j) t us ≡ spoken_by r t us
spoken_commit Alone j t us s = reserved_end Alone j us
spoken_commit Together j t us s = counted_end Together j t us s

pub spoken_abort : (r : Rule) (j : ℕ) (t : List ℕ) (us : List Op) → SoundTable r t us
    → spoken_by r (recover j us t) (others j us) + spoken_of r (mine j) t us ≡ spoken_by r t us
spoken_abort Alone j t us s = reserved_end Alone j us
spoken_abort Together j t us s = ap (λ n. n + counted_of (mine j) t us) (counted_undone Together j t us s) ∙ counted_end Together j t us s

-- by the first rule each delete's tile is absent, and none comes after it on that tile: the second would count as many
elsewhere_undeleted : (u : Op) (us : List Op) → FreeAfter Alone u us → deleted u.key us ≡ false
elsewhere_undeleted u [] f = refl
elsewhere_undeleted u (v ∷ us) f = rw (ne_eqb u.key v.key f.0, and-false (three v), elsewhere_undeleted u us f.1)

counted_alone : (t : List ℕ) (us : List Op) → SoundTable Alone t us → counted t us ≡ reserved us
counted_alone t [] s = refl
counted_alone t (u ∷ us) s = ap₂ (λ m n. m + n) (go (three u) refl) (counted_alone t us s.1)
  where
    found_so : (p : Procedure) (f : Bool) → eqb (kind p f) 3 ≡ true → f ≡ true
    found_so Del true e = refl
    found_so Del false e = never (sym e)
    found_so Ins true e = never (sym e)
    found_so Ins false e = never (sym e)
    found_so Mem true e = never (sym e)
    found_so Mem false e = never (sym e)

    go : (c : Bool) → three u ≡ c → one_if (c && not (member u.key t || deleted u.key us)) ≡ one_if c
    go false x = refl
    go true x =
        let c = three_changes u.proc u.found x in
        let free = s.0.own_tile c in
        rw (sym (seen_alone u us t free) ∙ s.0.as_left_lem c ∙ ap not (found_so u.proc u.found x), elsewhere_undeleted u us free)

pub spoken_either : (r : Rule) (t : List ℕ) (us : List Op) → SoundTable r t us → spoken_by Together t us ≡ spoken_by r t us
spoken_either Alone t us s = counted_alone t us s
spoken_either Together t us s = refl
