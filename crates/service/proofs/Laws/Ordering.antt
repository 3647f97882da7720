-- The numbers of the calls, each exactly: this fixes the order in which they are judged
use Rattle.std.specs.Prelude.{Bool, cond, false, not, true, List, [], ◌++◌, ◌∷◌, ◌↔◌, ◌≢◌, ◌⊎◌, ◌≡◌, refl, ◌<◌, ◌≤◌, ℕ, eqb, ltb}
use Rattle.std.proofs.Common.{inl, inr, ◌∙◌, sym, arith, le-ltb, lt-ltb, ltb-false, ltb-true}
use Rattle.std.proofs.Math.Option.{Option, none, some}
use Rattle.std.proofs.Math.Path.{ap}
use Rattle.std.proofs.lemmas.Bool.{not-false, not-true}
use Rattle.lists.specs.Truth.{never}
use Rattle.strict.specs.declared.Procedure.{Procedure}
use Rattle.grid.proofs.Laws.Keys.{edition_known, no_edition, step_fourteen}
use Rattle.grid.specs.Limits.{north_edition, south_edition}
use Rattle.grid.specs.Tile.{address_call, is_edition, key_of, placed_at, turns_in, unplaced_by}
use Rattle.grid.specs.declared.Address.{Address}
use Rattle.service.specs.Admission.{answer_to, is_open}
use Rattle.service.specs.Calls.{concluded, end_refusals, keyed_refusals}
use Rattle.service.specs.Claims.{Serves, WantsOpen, holder_in, open_bytes}
use Rattle.service.specs.History.{Call, aborting, call, committing, event, job_of, opening, operating, refusals_of, turns_by}
use Rattle.service.proofs.Laws.Accepting.{accepted, open_passed, serves_is}
use Rattle.service.proofs.Laws.Telling.{Others, Passed, held_six, some_not_none, told_exactly}
use Rattle.service.specs.Limits.{last_job}
use Rattle.service.specs.Sound.{sound_B}
use Rattle.service.specs.Told.{Refusal, decided, done, refuse}
use Rattle.service.specs.World.{World, free_bytes, state}
use Rattle.service.specs.declared.Told.{Told}

-- the refusal x, at a place of the list of a call, is told just where none before it applies and it does
module _ (w : World) (c : Call) (xs : List Refusal) (x : Refusal) (ys : List Refusal) (listed : refusals_of w c ≡ xs ++ (x ∷ ys)) where
  pub told_there : (n : ℕ) → 0 ≢ n → Others n xs → x.says.number ≡ n → Others n ys → ((call w c).told.number ≡ n) ↔ (Passed xs × (x.applies ≡ true))
  unfolding concluded
  told_there n d a e b =
      let t : Told = done (answer_to (state w) (event c)) (turns_by c) in
      let exact = told_exactly n xs x ys t a e b d in
      let number : (call w c).told.number ≡ _ = ap (λ rs. (decided rs t).number) listed in
      (λ q. exact.0 (sym number ∙ q), λ h. number ∙ exact.1 h)

-- 1 and 2, of every call
abbrev later : World → Call → List Refusal
later w c = elim (refusals_of w c) [ [] ↦ [] | r ∷ rs ↦ elim rs [ [] ↦ [] | q ∷ qs ↦ qs ] ]

module _ (w : World) where
  abbrev unsound : Refusal
  unsound = refuse 1 (not (sound_B w))

  abbrev no_job : ℕ → Refusal
  no_job job = refuse 2 (ltb last_job job)

  begins : (c : Call) → refusals_of w c ≡ unsound ∷ no_job (job_of c) ∷ later w c
  begins (opening job) = refl
  begins (committing job) = refl
  begins (aborting job) = refl
  begins (operating job sheet p a) = refl

  keyed_others : (n : ℕ) → (n < 6) ⊎ (9 < n) → (job : ℕ) (p : Procedure) (k : ℕ) → Others n (keyed_refusals w job p k)
  keyed_others n (inl l) job p k = (λ e. let six = held_six (holder_in w job p k) in omega arith, (omega arith, (omega arith, (omega arith, tt))))
  keyed_others n (inr l) job p k = (λ e. let six = held_six (holder_in w job p k) in omega arith, (omega arith, (omega arith, (omega arith, tt))))

  later_others : (n : ℕ) → n < 3 → (c : Call) → Others n (later w c)
  later_others n l (opening job) = (omega arith, (omega arith, tt))
  later_others n l (committing job) = (omega arith, tt)
  later_others n l (aborting job) = (omega arith, tt)
  later_others n l (operating job sheet p a) = (omega arith, (omega arith, (omega arith, keyed_others n (inl (omega arith)) job p (address_call a).key)))

  pub told_one : (c : Call) → ((call w c).told.number ≡ 1) ↔ (sound_B w ≡ false)
  told_one c =
      let one = told_there w c [] unsound (no_job (job_of c) ∷ later w c) (begins c) 1 (omega arith) tt refl (omega arith, later_others 1 (omega arith) c) in
      (λ e. not-true _ (one.0 e).1, λ e. one.1 (tt, ap not e))

  pub told_two : (c : Call) → ((call w c).told.number ≡ 2) ↔ ((sound_B w ≡ true) × (last_job < job_of c))
  told_two c =
      let two = told_there w c (unsound ∷ []) (no_job (job_of c)) (later w c) (begins c) 2 (omega arith) (omega arith, tt) refl (later_others 2 (omega arith) c) in
      (λ e. let h = two.0 e in (not-false _ h.0.0, ltb-true _ _ h.1), λ h. two.1 ((ap not h.0, tt), lt-ltb _ _ h.1))

  -- the third is of the job's mark
  third : (c : Call) (n : ℕ) (b : Bool) (rs : List Refusal) → refusals_of w c ≡ unsound ∷ no_job (job_of c) ∷ refuse n b ∷ rs → 2 < n → Others n rs
      → ((call w c).told.number ≡ n) ↔ ((sound_B w ≡ true) × (job_of c ≤ last_job) × (b ≡ true))
  third c n b rs e l others =
      let x = told_there w c (unsound ∷ no_job (job_of c) ∷ []) (refuse n b) rs e n (omega arith) (omega arith, (omega arith, tt)) refl others in (
        λ q. let h = x.0 q in (not-false _ h.0.0, ltb-false _ _ h.0.1.0, h.1),
        λ h. x.1 ((ap not h.0, (le-ltb _ _ h.1, tt)), h.2),
      )

  pub told_four : (job : ℕ) → ((call w (opening job)).told.number ≡ 4) ↔ ((sound_B w ≡ true) × (job ≤ last_job) × (is_open (state w) job ≡ true))
  told_four job = third (opening job) 4 (is_open (state w) job) _ refl (omega arith) (omega arith, tt)

  pub told_three : (c : Call) → WantsOpen c
      → ((call w c).told.number ≡ 3) ↔ ((sound_B w ≡ true) × (job_of c ≤ last_job) × (is_open (state w) (job_of c) ≡ false))
  told_three c h =
      let x = go c h in
      (λ e. let q = x.0 e in (q.0, q.1, not-true _ q.2), λ q. x.1 (q.0, q.1, ap not q.2))
    where
      go : (c : Call) → WantsOpen c
          → ((call w c).told.number ≡ 3) ↔ ((sound_B w ≡ true) × (job_of c ≤ last_job) × (not (is_open (state w) (job_of c)) ≡ true))
      go (opening job) h = absurd h
      go (committing job) h = third (committing job) 3 _ [] refl (omega arith) tt
      go (aborting job) h = third (aborting job) 3 _ [] refl (omega arith) tt
      go (operating job sheet p a) h = third (operating job sheet p a) 3 _ _ refl (omega arith) (omega arith, (omega arith, keyed_others 3 (inl (omega arith)) job p (address_call a).key))

  -- 14 and then 5, of an operation
  module _ (job sheet : ℕ) (p : Procedure) (a : Address) where
    abbrev misnamed : Refusal
    misnamed = refuse 14 (eqb (address_call a).number 14)

    abbrev unplaced : Refusal
    unplaced = refuse 5 (eqb (address_call a).number 5)

    -- the step's number, by the edition and the key
    abbrev step : Bool → Option ℕ → ℕ
    step b o = (cond b (placed_at o (turns_in a)) (unplaced_by 14)).number

    no_key_told : (b : Bool) (o : Option ℕ) → (eqb (step b o) 5 ≡ true) ↔ ((b ≡ true) × (o ≡ none))
    no_key_told true none = (λ e. (refl, refl), λ h. refl)
    no_key_told true (some k) = (λ e. never (sym e), λ h. absurd (some_not_none k h.1))
    no_key_told false o = (λ e. never (sym e), λ h. never (sym h.0))

    pub told_fourteen : ((call w (operating job sheet p a)).told.number ≡ 14) ↔ (Serves w job × (a.edition ≢ south_edition) × (a.edition ≢ north_edition))
    told_fourteen =
        let x = told_there w (operating job sheet p a) (end_refusals w job) misnamed _ refl 14 (omega arith) (omega arith, (omega arith, (omega arith, tt))) refl
        (omega arith, keyed_others 14 (inr (omega arith)) job p (address_call a).key) in
        let v = serves_is w job in
        let n = no_edition a.edition in
        let t = step_fourteen a in (
          λ e. let h = x.0 e in let m = n.0 (t.0 h.1) in (v.0 h.0, m.0, m.1),
          λ h. x.1 (v.1 h.0, t.1 (n.1 (h.1, h.2))),
        )

    pub told_five : ((call w (operating job sheet p a)).told.number ≡ 5) ↔ (Serves w job × (is_edition a.edition ≡ true) × (key_of a ≡ none))
    told_five =
        let three = end_refusals w job in
        let x = told_there w (operating job sheet p a) (three ++ (misnamed ∷ [])) unplaced _ refl 5 (omega arith) (omega arith, (omega arith, (omega arith, (omega arith, tt)))) refl
        (keyed_others 5 (inl (omega arith)) job p (address_call a).key) in
        let v = serves_is w job in
        let t = no_key_told (is_edition a.edition) (key_of a) in (
          λ e. let h = x.0 e in let m = t.0 h.1 in (v.0 (h.0.0, (h.0.1.0, (h.0.1.1.0, tt))), m.0, m.1),
          λ h. let s = v.1 h.0 in
              x.1 ((s.0, (s.1.0, (s.1.1.0, (edition_known a h.1, tt)))), t.1 (h.1, h.2)),
        )

  -- an open is done, and is refused by 9, by the bytes
  pub open_told : (job : ℕ) →
      let n = (call w (opening job)).told.number in
      let asked = (sound_B w ≡ true) × (job ≤ last_job) × (is_open (state w) job ≡ false) in
      ((n ≡ 0) ↔ (asked × (open_bytes w ≤ free_bytes w))) × ((n ≡ 9) ↔ (asked × (free_bytes w < open_bytes w)))
  open_told job =
      let zero = accepted w (opening job) in
      let named = open_passed w job in
      let nine = told_there w (opening job) (unsound ∷ no_job job ∷ refuse 4 (is_open (state w) job) ∷ []) (refuse 9 (ltb (free_bytes w) (open_bytes w))) [] refl 9 (omega arith)
      (omega arith, (omega arith, (omega arith, tt))) refl tt in (
        (
          λ e. let h = named.0 (zero.0 e) in ((h.is_sound_there, h.small, h.not_open), h.bytes),
          λ h. zero.1 (named.1 (record { is_sound_there = h.0.0; small = h.0.1; not_open = h.0.2; bytes = h.1 })),
        ),
        (
          λ e. let h = nine.0 e in ((not-false _ h.0.0, ltb-false _ _ h.0.1.0, h.0.1.1.0), ltb-true _ _ h.1),
          λ h. nine.1 ((ap not h.0.0, (le-ltb _ _ h.0.1, (h.0.2, tt))), lt-ltb _ _ h.1),
        ),
      )
