-- The numbers 6 to 9 and 0 of an operation that 1, 2, 3 and 5 do not refuse, each exactly
use Rattle.std.specs.Prelude.{Bool, ◌&&◌, cond, false, not, true, List, [], ◌∷◌, map, ◌↔◌, ◌≢◌, ◌≡◌, refl, ◌<◌, ◌≤◌, ℕ, eqb, ltb, length}
use Rattle.std.proofs.Common.{inl, inr, ⊎_elim, ◌∙◌, ap, subst, sym, arith, length-take-le}
use Rattle.std.proofs.Math.Option.{Option, none, some}
use Rattle.std.proofs.lemmas.List.{length-map}
use borrow.Author.Tests.{eq-eqb, eqb-false, eqb-true, le-ltb, lt-ltb, ltb-false, ltb-true, ne_eqb, not-true}
use Rattle.lists.specs.Lists.{All}
use Rattle.lists.specs.Truth.{and_both, both, never}
use Rattle.strict.specs.Book.{deleted, held_by, needs_place, places_taken}
use Rattle.strict.specs.Commutativity.{FirstHolder, Signature, holder, signature_of, holds}
use Rattle.strict.specs.Histories.{operation}
use Rattle.strict.specs.Operations.{Op, begun, kind}
use Rattle.strict.proofs.Theorems.{first_holder}
use Rattle.strict.specs.declared.Procedure.TheVariants.{Del, Ins, Mem}
use Rattle.strict.specs.declared.Procedure.{Procedure}
use Rattle.strict.specs.declared.Rule.TheVariants.{Together}
use Rattle.grid.proofs.Laws.Keys.{keyed_edition}
use Rattle.grid.specs.Tile.{address_call, key_of}
use Rattle.grid.specs.declared.Address.{Address}
use Rattle.service.specs.Admission.{answer_to}
use Rattle.service.specs.Calls.{concluded, keyed_refusals, operation_call}
use Rattle.service.specs.Claims.{ChangedByOther, NoRoomByJob, Placeless, Serves, holder_in, operation_bytes}
use Rattle.service.specs.Entry.{job_in, key_in, kind_in, op_in}
use Rattle.service.proofs.Laws.Entries.{changes_kind}
use Rattle.service.proofs.Laws.Soundness.{sound_is}
use Rattle.service.proofs.Laws.Telling.{found_is, held_numbered, held_six, holder_told, not_held, some_not_none, told_exactly, told_whole, told_zero}
use Rattle.service.specs.Limits.{last_job}
use Rattle.service.specs.Sound.{Entry, changing}
use Rattle.service.specs.Told.{Refusal, decided, done, refuse, refuse_held, told_held}
use Rattle.service.specs.World.{World, free_bytes, state, used_operations, used_tiles}
use Rattle.service.specs.declared.Told.{Told}

-- THE LAST FOUR TESTS, in their order: whether there is a holder, and three that are true or not
module _ (o : Option Signature) (b₇ b₈ b₉ : Bool) (t : Told) (z : t.number ≡ 0) where
  abbrev tests : List Refusal
  tests = refuse_held o ∷ refuse 7 b₇ ∷ refuse 8 b₈ ∷ refuse 9 b₉ ∷ []

  six_or_not : (n : ℕ) → 6 ≢ n → (refuse_held o).says.number ≢ n
  six_or_not n d e = d (sym (held_six o) ∙ e)

  free_is : o ≡ none → (refuse_held o).applies ≡ false
  free_is e = ap (λ x. (refuse_held x).applies) e

  pub six_first : ((decided tests t).number ≡ 6) ↔ (o ≢ none)
  six_first =
      let x = told_exactly 6 [] (refuse_held o) (refuse 7 b₇ ∷ refuse 8 b₈ ∷ refuse 9 b₉ ∷ []) t tt (held_six o) (omega arith, (omega arith, (omega arith, tt))) (λ e. omega arith) in
      (λ e. (found_is o).0 (x.0 e).1, λ f. x.1 (tt, (found_is o).1 f))

  pub seven_first : ((decided tests t).number ≡ 7) ↔ ((o ≡ none) × (b₇ ≡ true))
  seven_first =
      let x = told_exactly 7 (refuse_held o ∷ []) (refuse 7 b₇) (refuse 8 b₈ ∷ refuse 9 b₉ ∷ []) t (six_or_not 7 (omega arith), tt) refl (omega arith, (omega arith, tt)) (λ e. omega arith) in
      (λ e. let h = x.0 e in (not_held o h.0.0, h.1), λ h. x.1 ((free_is h.0, tt), h.1))

  pub eight_first : ((decided tests t).number ≡ 8) ↔ ((o ≡ none) × (b₇ ≡ false) × (b₈ ≡ true))
  eight_first =
      let x = told_exactly 8 (refuse_held o ∷ refuse 7 b₇ ∷ []) (refuse 8 b₈) (refuse 9 b₉ ∷ []) t (six_or_not 8 (omega arith), (omega arith, tt)) refl (omega arith, tt) (λ e. omega arith) in
      (λ e. let h = x.0 e in (not_held o h.0.0, h.0.1.0, h.1), λ h. x.1 ((free_is h.0, (h.1, tt)), h.2))

  pub nine_first : ((decided tests t).number ≡ 9) ↔ ((o ≡ none) × (b₇ ≡ false) × (b₈ ≡ false) × (b₉ ≡ true))
  nine_first =
      let x = told_exactly 9 (refuse_held o ∷ refuse 7 b₇ ∷ refuse 8 b₈ ∷ []) (refuse 9 b₉) [] t (six_or_not 9 (omega arith), (omega arith, (omega arith, tt))) refl tt (λ e. omega arith) in
      (λ e. let h = x.0 e in (not_held o h.0.0, h.0.1.0, h.0.1.1.0, h.1), λ h. x.1 ((free_is h.0, (h.1, (h.2, tt))), h.3))

  pub none_first : ((decided tests t).number ≡ 0) ↔ ((o ≡ none) × (b₇ ≡ false) × (b₈ ≡ false) × (b₉ ≡ false))
  none_first =
      let x = told_zero tests t (held_numbered o, (refl, (refl, (refl, tt)))) z in
      (λ e. let h = x.0 e in (not_held o h.0, h.1.0, h.1.1.0, h.1.1.1.0), λ h. x.1 (free_is h.0, (h.1, (h.2, (h.3, tt)))))

  pub holder_first : (i : Signature) → (decided tests t ≡ told_held i) ↔ (o ≡ some i)
  holder_first i =
      let whole = told_whole [] (refuse_held o) (refuse 7 b₇ ∷ refuse 8 b₈ ∷ refuse 9 b₉ ∷ []) t tt in (
        λ e. let a = (found_is o).1 (six_first.0 (ap (λ (x : Told). x.number) e)) in holder_told o i a (sym (whole a) ∙ e),
        λ e. whole (ap (λ x. (refuse_held x).applies) e) ∙ ap (λ x. (refuse_held x).says) e,
      )

-- where a job fails as one
holds_other : (marks : List Bool) (o : Op) (e : ℕ) → Entry marks e
    → (holds Together o (op_in e) ≡ true) ↔ ((job_in e ≢ o.job) × (changing (kind_in e) ≡ true) × (o.key ≡ key_in e))
holds_other marks o e h = (
  λ q. let a = both _ _ q in let b = both _ _ a.1 in
      (eqb-false (job_in e) o.job (not-true _ a.0), sym (changes_kind marks e h) ∙ b.0, eqb-true o.key (key_in e) b.1),
  λ c. and_both (ap not (ne_eqb (job_in e) o.job c.0)) (and_both (changes_kind marks e h ∙ c.1) (eq-eqb o.key (key_in e) c.2)),
)

holder_other : (marks : List Bool) (o : Op) (es : List ℕ) → All (Entry marks) es
    → (holder Together o (map op_in es) ≢ none) ↔ ChangedByOther o.job o.key es
holder_other marks o [] h = (λ f. f refl, λ c. absurd c)
holder_other marks o (e ∷ es) h = go (holds Together o (op_in e)) refl (holder_other marks o es h.1)
  where
    go : (b : Bool) → holds Together o (op_in e) ≡ b → (holder Together o (map op_in es) ≢ none) ↔ ChangedByOther o.job o.key es
        → (cond b (some (signature_of (op_in e))) (holder Together o (map op_in es)) ≢ none) ↔ ChangedByOther o.job o.key (e ∷ es)
    go true q ih = (λ f. inl ((holds_other marks o e h.0).0 q), λ c. some_not_none (signature_of (op_in e)))
    go false q ih = (
      λ f. inr (ih.0 f),
      λ c. ⊎_elim (λ (x : (job_in e ≢ o.job) × (changing (kind_in e) ≡ true) × (o.key ≡ key_in e)). absurd (never (sym ((holds_other marks o e h.0).1 x) ∙ q)))
          (λ (x : ChangedByOther o.job o.key es). ih.1 x) c,
    )

nobody : (o : Option Signature) → ((o ≡ none → ⊥) → ⊥) → o ≡ none
nobody none f = refl
nobody (some i) f = absurd (f (some_not_none i))

-- an operation needs a place just where it is an ins of an absent tile that is not counted
place_wanted : (p : Procedure) (found d : Bool) → (eqb (kind p found) 1 && not d ≡ true) ↔ ((p ≡ Ins) × (found ≡ false) × (d ≡ false))
place_wanted Ins false true = (λ e. never (sym e), λ c. never c.2)
place_wanted Ins false false = (λ e. (refl, refl, refl), λ c. refl)
place_wanted Ins true d = (λ e. never (sym e), λ c. never c.1)
place_wanted Del true d = (λ e. never (sym e), λ c. never c.1)
place_wanted Del false d = (λ e. never (sym e), λ c. never (sym (ap (λ q. eqb (kind q false) 1) c.0)))
place_wanted Mem true d = (λ e. never (sym e), λ c. never c.1)
place_wanted Mem false d = (λ e. never (sym e), λ c. never (sym (ap (λ q. eqb (kind q false) 1) c.0)))

-- PAST THE FIRST FIVE: 1, 2, 3, 14 and 5
module _ (w : World) (job sheet : ℕ) (p : Procedure) (a : Address) (k : ℕ) (v : Serves w job) (has_key_lem : key_of a ≡ some k) where
  abbrev number : ℕ
  number = (operation_call w job sheet p a).told.number

  -- the four tests of the operation
  abbrev full : Bool
  full = needs_place w.session.rule (state w).book.table (begun job p k (used_tiles w)) && eqb (places_taken w.session.rule (state w).book) (length w.tiles)

  abbrev slotless : Bool
  slotless = eqb (length (state w).book.table) (length w.operations)

  abbrev byteless : Bool
  byteless = ltb (free_bytes w) (operation_bytes w)

  abbrev answered : Told
  answered = done (answer_to (state w) (operation job sheet p k)) (address_call a).turns

  told_is : (operation_call w job sheet p a).told ≡ decided (keyed_refusals w job p k) answered
  unfolding concluded
  told_is = rw (v.is_sound_there, le-ltb last_job job v.small, v.job_is_open, (keyed_edition a k has_key_lem).0, has_key_lem)

  number_is : number ≡ (decided (keyed_refusals w job p k) answered).number
  number_is = ap (λ (t : Told). t.number) told_is

  full_is : (full ≡ true) ↔ Placeless w job p k
  full_is = (λ e. let b = both _ _ e in (b.0, eqb-true _ _ b.1), λ c. and_both c.0 (eq-eqb _ _ c.1))

  not_full : (full ≡ false) ↔ (Placeless w job p k → ⊥)
  not_full = (λ e c. never (sym (full_is.1 c) ∙ e), λ f. go full (λ e. f (full_is.0 e)))
    where
      go : (b : Bool) → (b ≡ true → ⊥) → b ≡ false
      go true f = absurd (f refl)
      go false f = refl

  slots_used : length (state w).book.table ≡ w.session.operations
  slots_used = length-map (used_operations w) op_in ∙ length-take-le w.session.operations w.operations (sound_is w v.is_sound_there).tables.operations_fit

  slotless_is : (slotless ≡ true) ↔ (w.session.operations ≡ length w.operations)
  slotless_is = (λ e. sym slots_used ∙ eqb-true _ _ e, λ e. eq-eqb _ _ (slots_used ∙ e))

  slot_left : (slotless ≡ false) ↔ (w.session.operations < length w.operations)
  slot_left =
      let u = slots_used in
      let fits = (sound_is w v.is_sound_there).tables.operations_fit in
      (λ e. let d : length (state w).book.table ≢ length w.operations = eqb-false _ _ e in omega arith, λ l. let d : length (state w).book.table ≢ length w.operations = λ e. omega arith in ne_eqb _ _ d)

  -- 6, with its job, just where the table has a first holder
  pub held_names : (i : Signature) → ((operation_call w job sheet p a).told ≡ told_held i)
      ↔ FirstHolder w.session.rule (begun job p k (used_tiles w)) (state w).book.table i
  held_names i =
      let first = first_holder w.session.rule (begun job p k (used_tiles w)) (state w).book.table i in
      let iff = holder_first (holder_in w job p k) full slotless byteless answered refl i in
      (λ e. first.0 (iff.0 (sym told_is ∙ e)), λ f. told_is ∙ iff.1 (first.1 f))

  pub told_six : (number ≡ 6) ↔ (holder_in w job p k ≢ none)
  told_six = let x = six_first (holder_in w job p k) full slotless byteless answered refl in (λ e. x.0 (sym number_is ∙ e), λ h. number_is ∙ x.1 h)

  pub told_seven : (number ≡ 7) ↔ ((holder_in w job p k ≡ none) × Placeless w job p k)
  told_seven =
      let x = seven_first (holder_in w job p k) full slotless byteless answered refl in
      (λ e. let h = x.0 (sym number_is ∙ e) in (h.0, full_is.0 h.1), λ h. number_is ∙ x.1 (h.0, full_is.1 h.1))

  pub told_eight : (number ≡ 8) ↔ ((holder_in w job p k ≡ none) × (Placeless w job p k → ⊥) × (w.session.operations ≡ length w.operations))
  told_eight =
      let x = eight_first (holder_in w job p k) full slotless byteless answered refl in (
        λ e. let h = x.0 (sym number_is ∙ e) in (h.0, not_full.0 h.1, slotless_is.0 h.2),
        λ h. number_is ∙ x.1 (h.0, not_full.1 h.1, slotless_is.1 h.2),
      )

  pub told_nine : (number ≡ 9)
      ↔ ((holder_in w job p k ≡ none) × (Placeless w job p k → ⊥) × (w.session.operations < length w.operations) × (free_bytes w < operation_bytes w))
  told_nine =
      let x = nine_first (holder_in w job p k) full slotless byteless answered refl in (
        λ e. let h = x.0 (sym number_is ∙ e) in (h.0, not_full.0 h.1, slot_left.0 h.2, ltb-true _ _ h.3),
        λ h. number_is ∙ x.1 (h.0, not_full.1 h.1, slot_left.1 h.2, lt-ltb _ _ h.3),
      )

  pub accepted_told : (number ≡ 0)
      ↔ ((holder_in w job p k ≡ none) × (Placeless w job p k → ⊥) × (w.session.operations < length w.operations) × (operation_bytes w ≤ free_bytes w))
  accepted_told =
      let x = none_first (holder_in w job p k) full slotless byteless answered refl in (
        λ e. let h = x.0 (sym number_is ∙ e) in (h.0, not_full.0 h.1, slot_left.0 h.2, ltb-false _ _ h.3),
        λ h. number_is ∙ x.1 (h.0, not_full.1 h.1, slot_left.1 h.2, le-ltb _ _ h.3),
      )

  -- WHERE A JOB FAILS AS ONE
  module _ (rule : w.session.rule ≡ Together) where
    other : (holder Together (begun job p k (used_tiles w)) (state w).book.table ≢ none) ↔ ChangedByOther job k (used_operations w)
    other = holder_other w.session.marks (begun job p k (used_tiles w)) (used_operations w) (sound_is w v.is_sound_there).tables.entries

    same_holder : holder_in w job p k ≡ holder Together (begun job p k (used_tiles w)) (state w).book.table
    same_holder = ap (λ q. held_by q (state w).book job p k) rule

    -- 6 just where another's entry changed the tile
    pub held_by_other : (number ≡ 6) ↔ ChangedByOther job k (used_operations w)
    held_by_other = (λ e. other.0 (λ z. told_six.0 e (same_holder ∙ z)), λ c. told_six.1 (λ z. other.1 c (sym same_holder ∙ z)))

    -- and 7 in the words of the request
    pub room_by_job : (number ≡ 7) ↔ NoRoomByJob w job p k
    room_by_job =
        let wants = place_wanted p (begun job p k (used_tiles w)).found (deleted k (state w).book.table) in
        let here : Placeless w job p k
        ↔ ((needs_place Together (state w).book.table (begun job p k (used_tiles w)) ≡ true) × (places_taken Together (state w).book ≡ length w.tiles)) =
        subst
        (λ q. Placeless w job p k ↔ ((needs_place q (state w).book.table (begun job p k (used_tiles w)) ≡ true) × (places_taken q (state w).book ≡ length w.tiles)))
        rule (λ c. c, λ c. c) in (
          λ e. let c = told_seven.0 e in
              let d = here.0 c.1 in
              let n = wants.0 d.0 in
              record { not_held = λ h. other.1 h (sym same_holder ∙ c.0); inserts = n.0; absent = n.1; not_counted = n.2; all_taken = d.1 },
          λ c. told_seven.1 (
            same_holder ∙ nobody (holder Together (begun job p k (used_tiles w)) (state w).book.table) (λ h. c.not_held (other.0 h)),
            here.1 (wants.1 (c.inserts, c.absent, c.not_counted), c.all_taken),
          ),
        )
