-- On every sound table, however it came about, an accepted call leaves a sound one
use Rattle.std.specs.Prelude.{Bool, ◌&&◌, cond, false, not, true, List, [], ◌++◌, ◌∷◌, ◌≢◌, ◌≡◌, refl, ℕ, eqb}
use Rattle.std.proofs.Math.Bool.{and-false}
use Rattle.std.proofs.Math.Option.{none, some}
use Rattle.std.proofs.Common.{◌∙◌, ap, ap₂, sym, eqb-true, ne_eqb}
use Rattle.lists.specs.Truth.{both, by_cond, eqb_same, never}
use Rattle.strict.specs.Book.{Admitted, Book, Unheld, book_after, others, recover, step}
use Rattle.strict.specs.Commutativity.{changes, holder, signature_of, holds}
use Rattle.strict.specs.Histories.{Event, abort, commit, mine, open_job, operation}
use Rattle.strict.proofs.Laws.Holding.{clash, found_one, sheet_apart, touch_on}
use Rattle.strict.proofs.Laws.Members.{member_apply, touch}
use Rattle.strict.proofs.Laws.Undoing.{touch_idle, touch_off}
use Rattle.strict.specs.Operations.{Op, Step, after, apply, begun, clear, effect, inverse, of_sheet, put, skip, undo}
use Rattle.strict.specs.Sound.{FreeAfter, MayFollow, SoundEntry, SoundTable, seen}
use Rattle.strict.specs.Strict.{Log, ◌▷◌, empty}
use Rattle.strict.specs.Tiles.{member}
use Rattle.strict.specs.declared.Rule.TheVariants.{Alone, Together}
use Rattle.strict.specs.declared.Rule.{Rule}

pub member_else : (a : Step) (j k : ℕ) (t : List ℕ) → j ≢ k → member j (apply a k t) ≡ member j t
member_else a j k t d = member_apply a j k t ∙ ap (λ b. touch a b (member j t)) (ne_eqb j k d) ∙ touch_off a (member j t)

-- What an entry's tile was when the later ones ran
seen_else : (a : Step) (i k : ℕ) (us : List Op) (t : List ℕ) → i ≢ k → seen i us (apply a k t) ≡ seen i us t
seen_else a i k [] t d = member_else a i k t d
seen_else a i k (u ∷ us) t d = ap (cond (changes (inverse u) && eqb i u.key) u.found) (seen_else a i k us t d)

seen_last : (k : ℕ) (us : List Op) (o : Op) (t : List ℕ) → o.found ≡ member o.key t → seen k (us ++ (o ∷ [])) (after o t) ≡ seen k us t
seen_last k [] o t f =
    by_cond (λ b. b ≡ member k t) (changes (inverse o) && eqb k o.key)
    (λ e. f ∙ ap (λ x. member x t) (sym (eqb-true k o.key (both (changes (inverse o)) (eqb k o.key) e).1)))
    (λ e. member_apply (effect o.proc) k o.key t
    ∙ touch_idle o.proc o.found (eqb k o.key) (member k t) (λ x. f ∙ ap (λ y. member y t) (sym (eqb-true k o.key x))) e)
seen_last k (u ∷ us) o t f = ap (cond (changes (inverse u) && eqb k u.key) u.found) (seen_last k us o t f)

-- An entry that comes after
free_last : (r : Rule) (u : Op) (us : List Op) (o : Op) → FreeAfter r u us → MayFollow r u o → FreeAfter r u (us ++ (o ∷ []))
free_last r u [] o f m = (m, tt)
free_last r u (v ∷ us) o f m = (f.0, free_last r u us o f.1 m)

pub seen_alone : (u : Op) (us : List Op) (t : List ℕ) → FreeAfter Alone u us → seen u.key us t ≡ member u.key t
seen_alone u [] t f = refl
seen_alone u (v ∷ us) t f = rw (ne_eqb u.key v.key f.0, and-false) (seen_alone u us t f.1)

-- holder r o (u ∷ us) ≡ none, taken apart
pub free_head : (r : Rule) (o u : Op) (us : List Op) → holder r o (u ∷ us) ≡ none → holds r o u ≡ false
free_head r o u us e = go (holds r o u) e
  where
    go : (b : Bool) → cond b (some (signature_of u)) (holder r o us) ≡ none → b ≡ false
    go true x = never (ap found_one x)
    go false x = refl

pub free_tail : (r : Rule) (o u : Op) (us : List Op) → holder r o (u ∷ us) ≡ none → holder r o us ≡ none
free_tail r o u us e = go (holds r o u) e
  where
    go : (b : Bool) → cond b (some (signature_of u)) (holder r o us) ≡ none → holder r o us ≡ none
    go true x = never (ap found_one x)
    go false x = x

pub may_follow : (r : Rule) (t : List ℕ) (o u : Op) (us : List Op) → o.found ≡ member o.key t → holds r o u ≡ false → changes (inverse u) ≡ true
    → SoundEntry r t u us → MayFollow r u o
may_follow Alone t o u us f h c s = λ p.
    let m : member u.key t ≡ not u.found = sym (seen_alone u us t (s.own_tile c)) ∙ s.as_left_lem c in
    never (sym (rw (p, eqb_same o.key, clash o.proc o.found u.proc u.found c (f ∙ ap (λ k. member k t) (sym p) ∙ m))) ∙ h)
may_follow Together t o u us f h c s = λ p. eqb-true u.job o.job (go (eqb u.job o.job) (rw (c, p, eqb_same o.key) at h))
  where
    go : (b : Bool) → not b && true ≡ false → b ≡ true
    go true e = refl
    go false e = never e

-- One entry more
pub sound_operation : (r : Rule) (t : List ℕ) (us : List Op) (o : Op) → SoundTable r t us → o.done ≡ false → o.found ≡ member o.key t
    → holder r o us ≡ none
    → SoundTable r (after o t) (us ++ (o ∷ []))
sound_operation r t [] o s d f h = (
  record {
    unfinished_entry = d;
    as_left_lem = λ c. member_apply (effect o.proc) o.key o.key t ∙ rw (eqb_same o.key) (touch_on o.proc o.found (member o.key t) c);
    own_tile = λ c. tt;
  },
  tt,
)
sound_operation r t (u ∷ us) o s d f h = (
  record {
    unfinished_entry = s.0.unfinished_entry;
    as_left_lem = λ c. seen_last u.key us o t f ∙ s.0.as_left_lem c;
    own_tile = λ c. free_last r u us o (s.0.own_tile c) (may_follow r t o u us f (free_head r o u us h) c s.0);
  },
  sound_operation r t us o s.1 d f (free_tail r o u us h),
)

-- Fewer entries: those of job j go, and are on no tile that another's entry changed before
free_others : (r : Rule) (j : ℕ) (u : Op) (us : List Op) → FreeAfter r u us → FreeAfter r u (others j us)
free_others r j u [] f = tt
free_others r j u (v ∷ us) f = let ih = free_others r j u us f.1 in by_cond (FreeAfter r u) (mine j v) (λ e. ih) (λ e. (f.0, ih))

mine_same : (j : ℕ) (u v : Op) → u.done ≡ false → v.job ≡ u.job → mine j v ≡ true → mine j u ≡ true
mine_same j u v d p e = rw (d, ← p) (both (not v.done) (eqb j v.job) e).1

pub off_tile : (r : Rule) (j : ℕ) (u v : Op) → MayFollow r u v → u.done ≡ false → mine j u ≡ false → mine j v ≡ true → u.key ≢ v.key
off_tile Alone j u v m d a b = m
off_tile Together j u v m d a b = λ p. never (sym (mine_same j u v d (sym (m p)) b) ∙ a)

seen_commit : (r : Rule) (j : ℕ) (u : Op) (us : List Op) (t : List ℕ) → FreeAfter r u us → u.done ≡ false → mine j u ≡ false
    → seen u.key (others j us) t ≡ seen u.key us t
seen_commit r j u [] t f d a = refl
seen_commit r j u (v ∷ us) t f d a =
    let ih = seen_commit r j u us t f.1 d a in
    by_cond (λ l. seen u.key l t ≡ seen u.key (v ∷ us) t) (mine j v)
    (λ e. ih ∙ sym (rw (ne_eqb u.key v.key (off_tile r j u v f.0 d a e), and-false)))
    (λ e. ap (cond (changes (inverse v) && eqb u.key v.key) v.found) ih)

pub sound_commit : (r : Rule) (j : ℕ) (t : List ℕ) (us : List Op) → SoundTable r t us → SoundTable r t (others j us)
sound_commit r j t [] s = tt
sound_commit r j t (u ∷ us) s =
    let ih = sound_commit r j t us s.1 in
    by_cond (SoundTable r t) (mine j u) (λ e. ih)
    (λ e. (
      record {
        unfinished_entry = s.0.unfinished_entry;
        as_left_lem = λ c. seen_commit r j u us t (s.0.own_tile c) s.0.unfinished_entry e ∙ s.0.as_left_lem c;
        own_tile = λ c. free_others r j u us (s.0.own_tile c);
      },
      ih,
    ))

-- A step on a tile that no entry has
unfoldable pub Elsewhere : ℕ → List Op → Type 0
Elsewhere k [] = Unit {0}
Elsewhere k (u ∷ us) = (u.key ≢ k) × Elsewhere k us

sound_else : (r : Rule) (a : Step) (k : ℕ) (t : List ℕ) (us : List Op) → Elsewhere k us → SoundTable r t us → SoundTable r (apply a k t) us
unfolding Elsewhere
sound_else r a k t [] e s = tt
sound_else r a k t (u ∷ us) e s = (
  record {
    unfinished_entry = s.0.unfinished_entry;
    as_left_lem = λ c. seen_else a u.key k us t e.0 ∙ s.0.as_left_lem c;
    own_tile = s.0.own_tile;
  },
  sound_else r a k t us e.1 s.1,
)

-- the entries that job j leaves are not on a tile that it changed
pub elsewhere : (r : Rule) (j : ℕ) (t : List ℕ) (w : Op) (us : List Op) → SoundTable r t us → FreeAfter r w us → mine j w ≡ true
    → Elsewhere w.key (others j us)
unfolding Elsewhere
elsewhere r j t w [] s f e = tt
elsewhere r j t w (v ∷ us) s f e =
    let ih = elsewhere r j t w us s.1 f.1 e in
    by_cond (Elsewhere w.key) (mine j v) (λ x. ih) (λ x. (off r f.0 x, ih))
  where
    off : (r : Rule) → MayFollow r w v → mine j v ≡ false → v.key ≢ w.key
    off Alone m x p = m (sym p)
    off Together m x p = never (sym (mine_same j v w s.0.unfinished_entry (m (sym p)) e) ∙ x)

seen_abort : (r : Rule) (j : ℕ) (u : Op) (us : List Op) (t : List ℕ) → FreeAfter r u us → u.done ≡ false → mine j u ≡ false
    → seen u.key (others j us) (recover j us t) ≡ seen u.key us t
seen_abort r j u [] t f d a = refl
seen_abort r j u (v ∷ us) t f d a = go (mine j v) refl (seen_abort r j u us t f.1 d a)
  where
    go : (b : Bool) → mine j v ≡ b → seen u.key (others j us) (recover j us t) ≡ seen u.key us t
        → seen u.key (cond b (others j us) (v ∷ others j us)) (cond b (undo v (recover j us t)) (recover j us t)) ≡ seen u.key (v ∷ us) t
    go true e ih =
        let off = off_tile r j u v f.0 d a e in
        seen_else (inverse v) u.key v.key (others j us) (recover j us t) off ∙ ih ∙ sym (rw (ne_eqb u.key v.key off, and-false))
    go false e ih = ap (cond (changes (inverse v) && eqb u.key v.key) v.found) ih

pub sound_abort : (r : Rule) (j : ℕ) (t : List ℕ) (us : List Op) → SoundTable r t us → SoundTable r (recover j us t) (others j us)
sound_abort r j t [] s = tt
sound_abort r j t (u ∷ us) s = go (mine j u) refl (sound_abort r j t us s.1)
  where
    undone : (x : Step) → (changes x ≡ true → Elsewhere u.key (others j us)) → SoundTable r (recover j us t) (others j us)
        → SoundTable r (apply x u.key (recover j us t)) (others j us)
    undone put e i = sound_else r put u.key (recover j us t) (others j us) (e refl) i
    undone clear e i = sound_else r clear u.key (recover j us t) (others j us) (e refl) i
    undone skip e i = i

    go : (b : Bool) → mine j u ≡ b → SoundTable r (recover j us t) (others j us)
        → SoundTable r (cond b (undo u (recover j us t)) (recover j us t)) (cond b (others j us) (u ∷ others j us))
    go true e i = undone (inverse u) (λ c. elsewhere r j t u us s.1 (s.0.own_tile c) e) i
    go false e i = (
      record {
        unfinished_entry = s.0.unfinished_entry;
        as_left_lem = λ c. seen_abort r j u us t (s.0.own_tile c) s.0.unfinished_entry e ∙ s.0.as_left_lem c;
        own_tile = λ c. free_others r j u us (s.0.own_tile c);
      },
      i,
    )

pub step_sound : (r : Rule) (m : Book) (e : Event) → SoundTable r m.tiles m.table → Unheld r m e
    → SoundTable r (step m e).tiles (step m e).table
step_sound r m (open_job j) s u = s
step_sound r m (operation j sheet p k) s u =
    let o = begun j p k m.tiles in
    sound_operation r m.tiles m.table (of_sheet sheet o) s refl refl (sheet_apart r sheet o m.table ∙ u)
step_sound r m (commit j) s u = sound_commit r j m.tiles m.table s
step_sound r m (abort j) s u = sound_abort r j m.tiles m.table s

-- a table that is sound by either rule is so where a job fails as one
free_either : (r : Rule) (u : Op) (us : List Op) → FreeAfter r u us → FreeAfter Together u us
free_either r u [] f = tt
free_either Alone u (v ∷ us) f = (λ p. absurd (f.0 p), free_either Alone u us f.1)
free_either Together u (v ∷ us) f = f

pub sound_either : (r : Rule) (t : List ℕ) (us : List Op) → SoundTable r t us → SoundTable Together t us
sound_either r t [] s = tt
sound_either r t (u ∷ us) s = (
  record { unfinished_entry = s.0.unfinished_entry; as_left_lem = s.0.as_left_lem; own_tile = λ c. free_either r u us (s.0.own_tile c) },
  sound_either r t us s.1,
)

-- From a start
pub book_sound : (r : Rule) (s : List ℕ) (h : Log Event) → Admitted r s h → SoundTable r (book_after s h).tiles (book_after s h).table
book_sound r s empty a = tt
book_sound r s (h ▷ open_job j) a = book_sound r s h a.0
book_sound r s (h ▷ operation j sheet p k) a = step_sound r (book_after s h) (operation j sheet p k) (book_sound r s h a.0) a.2
book_sound r s (h ▷ commit j) a = step_sound r (book_after s h) (commit j) (book_sound r s h a.0) tt
book_sound r s (h ▷ abort j) a = step_sound r (book_after s h) (abort j) (book_sound r s h a.0) tt

-- one that nothing holds where each operation fails alone is not held where a job fails as one
free_too : (t : List ℕ) (us : List Op) (o : Op) → SoundTable Alone t us → o.found ≡ member o.key t → holder Alone o us ≡ none → holder Together o us ≡ none
free_too t [] o s f h = refl
free_too t (u ∷ us) o s f h =
    ap₂ (λ b x. cond b (some (signature_of u)) x) (go (inverse u) (λ c. may_follow Alone t o u us f (free_head Alone o u us h) c s.0))
    (free_too t us o s.1 f (free_tail Alone o u us h))
  where
    other_job : Bool
    other_job = not (eqb u.job o.job)

    go : (a : Step) → (changes a ≡ true → u.key ≢ o.key) → other_job && (changes a && eqb o.key u.key) ≡ false
    go put d = ap (λ b. other_job && b) (ne_eqb o.key u.key (λ p. d refl (sym p))) ∙ and-false other_job
    go clear d = ap (λ b. other_job && b) (ne_eqb o.key u.key (λ p. d refl (sym p))) ∙ and-false other_job
    go skip d = and-false other_job

pub wider : (s : List ℕ) (h : Log Event) → Admitted Alone s h → Admitted Together s h
wider s empty a = tt
wider s (h ▷ open_job j) a = (wider s h a.0, a.1, a.2)
wider s (h ▷ operation j sheet p k) a =
    let t = (book_after s h).tiles in
    (wider s h a.0, a.1, free_too t (book_after s h).table (begun j p k t) (book_sound Alone s h a.0) refl a.2)
wider s (h ▷ commit j) a = (wider s h a.0, a.1)
wider s (h ▷ abort j) a = (wider s h a.0, a.1)
