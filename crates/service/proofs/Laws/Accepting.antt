-- Calls that are accepted: what they pass, what they leave, and what worlds they reach from a start
use Rattle.std.specs.Prelude.{Bool, ◌||◌, false, not, true, List, [], ◌++◌, ◌∷◌, ◌↔◌, ◌≢◌, ◌≡◌, refl, ◌*◌, ◌+◌, ◌-◌, ◌<◌, ◌≤◌, ℕ, eqb, pos, drop, length, set, take}
use Rattle.std.proofs.Math.Bool.{cond}
use Rattle.std.proofs.Common.{◌∙◌, subst, sym, arith, eq-eqb, le-ltb, ltb-false}
use Rattle.std.proofs.Math.Path.{ap}
use Rattle.std.proofs.lemmas.List.Edits.{sets-eq}
use Rattle.std.proofs.lemmas.Bool.{not-false}
use Rattle.lists.specs.Lists.{All}
use Rattle.lists.specs.Truth.{both_false, never, or_true}
use Rattle.strict.specs.Histories.{Event, abort, commit, open_job, operation}
use Rattle.strict.proofs.Laws.Members.{above_less}
use Rattle.strict.specs.Tiles.{Above, member}
use Rattle.strict.specs.declared.Procedure.{Procedure}
use Rattle.grid.proofs.Laws.Keys.{address_key, edition_known}
use Rattle.grid.specs.Tile.{address_call}
use Rattle.grid.specs.declared.Address.{Address}
use Rattle.service.specs.Admission.{answer_to, is_open, open_marks, perform, refusals}
use Rattle.service.specs.Calls.{carried, concluded, end_refusals, keyed_refusals, open_refusals, operation_refusals}
use Rattle.service.specs.Claims.{OfEdition, Passes, Serves, holder_in, open_bytes, operation_bytes, refusing}
use Rattle.service.specs.Extents.{record_size}
use Rattle.service.specs.History.{Call, aborting, call, committing, event, opening, operating, refusals_of, turns_by}
use Rattle.service.specs.Journal.{encode, record_of}
use Rattle.service.proofs.Laws.Soundness.{sound_is}
use Rattle.service.proofs.Laws.Standing.{Free, Stands, admitted_free, stands_perform}
use Rattle.service.proofs.Laws.Storing.{closes_one, journal_stored, opens_one, places_stored, slots_stored, sound_stored, state_stored, tabled_stands}
use Rattle.service.proofs.Laws.Telling.{Numbered, Passed, decided_among, decided_none, held_numbered, held_six, none_applies, numbers, told_whole, told_zero}
use Rattle.service.specs.Limits.{last_job, short_size}
use Rattle.service.specs.Sound.{Sound, sound_B}
use Rattle.service.specs.Told.{Refusal, decided, done, refuse, refuse_held, refused}
use Rattle.service.specs.World.{World, free_bytes, state, used_journal}
use Rattle.service.specs.declared.Told.{Told}

-- THE LIST OF A CALL
pub numbered : (w : World) (c : Call) → All Numbered (refusals_of w c)
numbered w (opening job) = (refl, (refl, (refl, (refl, tt))))
numbered w (committing job) = (refl, (refl, (refl, tt)))
numbered w (aborting job) = (refl, (refl, (refl, tt)))
numbered w (operating job sheet p a) = (refl, (refl, (refl, (refl, (refl, (held_numbered (holder_in w job p (address_call a).key), (refl, (refl, (refl, tt)))))))))

pub numbers_of : (w : World) (c : Call) → numbers (refusals_of w c) ≡ refusing c
numbers_of w (opening job) = refl
numbers_of w (committing job) = refl
numbers_of w (aborting job) = refl
numbers_of w (operating job sheet p a) = ap (λ n. 1 ∷ 2 ∷ 3 ∷ 14 ∷ 5 ∷ n ∷ 7 ∷ 8 ∷ 9 ∷ []) (held_six (holder_in w job p (address_call a).key))

among : (ns : List ℕ) (rs : List Refusal) → numbers rs ≡ ns → All (λ x. member x.says.number ns ≡ true) rs
among ns rs e = subst (λ ms. All (λ x. member x.says.number ms ≡ true) rs) e (each rs)
  where
    wider : (m : ℕ) (ms : List ℕ) (xs : List Refusal) → All (λ x. member x.says.number ms ≡ true) xs → All (λ x. member x.says.number (m ∷ ms) ≡ true) xs
    wider m ms [] h = tt
    wider m ms (x ∷ xs) h = (or_true (eqb x.says.number m) h.0, wider m ms xs h.1)

    each : (rs : List Refusal) → All (λ x. member x.says.number (numbers rs) ≡ true) rs
    each [] = tt
    each (x ∷ xs) = (ap (λ b. b || member x.says.number (numbers xs)) (eq-eqb x.says.number x.says.number refl), wider x.says.number (numbers xs) xs (each xs))

pub told_listed : (w : World) (c : Call) → (call w c).told.number ≢ 0 → member (call w c).told.number (refusing c) ≡ true
unfolding concluded
told_listed w c = decided_among (refusing c) (refusals_of w c) (done (answer_to (state w) (event c)) (turns_by c)) (among (refusing c) (refusals_of w c) (numbers_of w c)) refl

-- THE LOWEST NUMBER
-- but for 14, which stands in front of 5, the lists rise
abbrev Low : ℕ → ℕ → Refusal → Type 0
Low n told x = x.applies ≡ true → (n < told) × (told ≤ x.says.number)

-- a refusal that does not apply may stand anywhere
decided_past : (xs : List Refusal) (r : Refusal) (ys : List Refusal) (t : Told) → r.applies ≡ false → decided (xs ++ (r ∷ ys)) t ≡ decided (xs ++ ys) t
decided_past [] r ys t e = rw e
decided_past (x ∷ xs) r ys t e = ap (cond x.applies x.says) (decided_past xs r ys t e)

low_past : (n told : ℕ) (xs : List Refusal) (r : Refusal) (ys : List Refusal) → r.applies ≡ false → All (Low n told) (xs ++ ys) → All (Low n told) (xs ++ (r ∷ ys))
low_past n told [] r ys e h = (λ f. never (sym f ∙ e), h)
low_past n told (x ∷ xs) r ys e h = (h.0, low_past n told xs r ys e h.1)

all_above : (n : ℕ) (rs : List Refusal) → Above n (numbers rs) → All (λ r. r.applies ≡ true → n ≤ r.says.number) rs
all_above n [] a = tt
all_above n (r ∷ rs) a = (λ e. let l = a.0 in omega arith, all_above n rs (above_less (numbers rs) a.0 a.1))

lowest : (n : ℕ) (rs : List Refusal) (t : Told) → Above n (numbers rs) → All (Low n (decided rs t).number) rs
lowest n [] t a = tt
lowest n (r ∷ rs) t a = go r.applies (lowest r.says.number rs t a.1)
  where
    from_first : (xs : List Refusal) → All (λ x. x.applies ≡ true → r.says.number ≤ x.says.number) xs → All (Low n r.says.number) xs
    from_first [] h = tt
    from_first (x ∷ xs) h = (λ e. let l = a.0 in let g = h.0 e in (omega arith, omega arith), from_first xs h.1)

    lower : (told : ℕ) (xs : List Refusal) → All (Low r.says.number told) xs → All (Low n told) xs
    lower told [] h = tt
    lower told (x ∷ xs) h = (λ e. let l = a.0 in let g = (h.0 e).0 in let m = (h.0 e).1 in (omega arith, omega arith), lower told xs h.1)

    go : (b : Bool) → All (Low r.says.number (decided rs t).number) rs
        → (b ≡ true → (n < (cond b r.says (decided rs t)).number) × ((cond b r.says (decided rs t)).number ≤ r.says.number))
        × All (Low n (cond b r.says (decided rs t)).number) rs
    go true ih = (λ e. (a.0, omega arith), from_first rs (all_above r.says.number rs a.1))
    go false ih = (λ e. never (sym e), lower (decided rs t).number rs ih)

pub lowest_told : (w : World) (c : Call) → OfEdition c
    → All (λ r. r.applies ≡ true → (0 < (call w c).told.number) × ((call w c).told.number ≤ r.says.number)) (refusals_of w c)
unfolding concluded
lowest_told w (opening job) h = lowest 0 (open_refusals w job) (done false (pos 0)) (omega arith, (omega arith, (omega arith, (omega arith, tt))))
lowest_told w (committing job) h = lowest 0 (end_refusals w job) (done false (pos 0)) (omega arith, (omega arith, (omega arith, tt)))
lowest_told w (aborting job) h = lowest 0 (end_refusals w job) (done false (pos 0)) (omega arith, (omega arith, (omega arith, tt)))
lowest_told w (operating job sheet p a) h =
    let three = end_refusals w job in
    let k = (address_call a).key in
    let keyed = keyed_refusals w job p k in
    let misnamed : Refusal = refuse 14 (eqb (address_call a).number 14) in
    let later : List Refusal = refuse 5 (eqb (address_call a).number 5) ∷ keyed in
    let t : Told = done (answer_to (state w) (operation job sheet p k)) (address_call a).turns in
    let known = edition_known a h in
    subst (λ (d : Told). All (Low 0 d.number) (three ++ (misnamed ∷ later))) (sym (decided_past three misnamed later t known))
    (low_past 0 (decided (three ++ later) t).number three misnamed later known
    (lowest 0 (three ++ later) t
    (subst (λ n. Above 0 (1 ∷ 2 ∷ 3 ∷ 5 ∷ n ∷ 7 ∷ 8 ∷ 9 ∷ [])) (sym (held_six (holder_in w job p k)))
    (omega arith, (omega arith, (omega arith, (omega arith, (omega arith, (omega arith, (omega arith, (omega arith, tt)))))))))))

pub none_told : (w : World) (c : Call) → refused (refusals_of w c) ≡ false → (call w c).told ≡ done (answer_to (state w) (event c)) (turns_by c)
unfolding concluded
none_told w c e = decided_none (refusals_of w c) (done (answer_to (state w) (event c)) (turns_by c)) e

pub first_told : (w : World) (c : Call) (xs : List Refusal) (r : Refusal) (ys : List Refusal) → refusals_of w c ≡ xs ++ (r ∷ ys) → Passed xs → r.applies ≡ true
    → (call w c).told ≡ r.says
unfolding concluded
first_told w c xs r ys e h a =
    let t : Told = done (answer_to (state w) (event c)) (turns_by c) in
    ap (λ rs. decided rs t) e ∙ told_whole xs r ys t h a

-- AN ACCEPTED CALL
module _ (w : World) (c : Call) (ok : (call w c).told.number ≡ 0) where
  pub passed : Passed (refusals_of w c)
  unfolding concluded
  passed = (told_zero (refusals_of w c) (done (answer_to (state w) (event c)) (turns_by c)) (numbered w c) refl).0 ok

  pub told_done : (call w c).told ≡ done (answer_to (state w) (event c)) (turns_by c)
  told_done = none_told w c (none_applies (refusals_of w c) passed)

  pub left_carried : (call w c).after ≡ carried w (event c)
  unfolding concluded
  left_carried = ap (λ n. cond (eqb n 0) (carried w (event c)) w) ok

pub accepted : (w : World) (c : Call) → ((call w c).told.number ≡ 0) ↔ Passed (refusals_of w c)
unfolding concluded
accepted w c = told_zero (refusals_of w c) (done (answer_to (state w) (event c)) (turns_by c)) (numbered w c) refl

-- WHAT IT PASSED, by name
pub serves_is : (w : World) (job : ℕ) → Passed (end_refusals w job) ↔ Serves w job
serves_is w job = (
  λ h. record { is_sound_there = not-false _ h.0; small = ltb-false last_job job h.1.0; job_is_open = not-false _ h.1.1.0 },
  λ s. (ap not s.is_sound_there, (le-ltb last_job job s.small, (ap not s.job_is_open, tt))),
)

pub record OpenPassed (w : World) (job : ℕ) : Type 0 where
  pub is_sound_there : sound_B w ≡ true
  pub small : job ≤ last_job
  pub not_open : is_open (state w) job ≡ false
  pub bytes : open_bytes w ≤ free_bytes w

pub open_passed : (w : World) (job : ℕ) → Passed (open_refusals w job) ↔ OpenPassed w job
open_passed w job = (
  λ h. record { is_sound_there = not-false _ h.0; small = ltb-false last_job job h.1.0; not_open = h.1.1.0; bytes = ltb-false _ _ h.1.1.1.0 },
  λ o. (ap not o.is_sound_there, (le-ltb last_job job o.small, (o.not_open, (le-ltb _ _ o.bytes, tt)))),
)

pub record KeyedPassed (w : World) (job : ℕ) (p : Procedure) (k : ℕ) : Type 0 where
  pub free : Free (length w.tiles) (length w.operations) (state w) job p k
  pub bytes : operation_bytes w ≤ free_bytes w

pub keyed_passed : (w : World) (job : ℕ) (p : Procedure) (k : ℕ) → Passed (keyed_refusals w job p k) ↔ KeyedPassed w job p k
keyed_passed w job p k = (
  λ h. record { free = admitted_free _ _ (state w) job p k (h.0, (h.1.0, (h.1.1.0, tt))); bytes = ltb-false _ _ h.1.1.1.0 },
  λ o. let f = o.free in (ap (λ x. (refuse_held x).applies) f.unheld, (f.some_room, (f.some_slot, (le-ltb _ _ o.bytes, tt)))),
)

record OperationPassed (w : World) (job : ℕ) (p : Procedure) (a : Address) : Type 0 where
  serves : Passed (end_refusals w job)
  has_edition : eqb (address_call a).number 14 ≡ false
  has_key : eqb (address_call a).number 5 ≡ false
  keyed : Passed (keyed_refusals w job p (address_call a).key)

operation_passed : (w : World) (job : ℕ) (p : Procedure) (a : Address) → Passed (operation_refusals w job p a) → OperationPassed w job p a
operation_passed w job p a h = record { serves = (h.0, (h.1.0, (h.1.1.0, tt))); has_edition = h.1.1.1.0; has_key = h.1.1.1.1.0; keyed = h.1.1.1.1.1 }

-- WHAT EVERY ACCEPTED CALL HAS PASSED
passes_open : (w : World) (job : ℕ) → OpenPassed w job → Passes w (open_job job)
passes_open w job p =
    let s = sound_is w p.is_sound_there in
    let j = p.small in
    let f = p.bytes in
    record {
      sound_before = s;
      named = j;
      unrefused_by = both_false p.not_open refl;
      bytes_fit = omega arith;
      ends_fit = λ m. let n = opens_one w.session.marks job p.not_open (omega arith) in omega arith;
    }

passes_operation : (w : World) (job sheet : ℕ) (p : Procedure) (a : Address) → OperationPassed w job p a → Passes w (operation job sheet p (address_call a).key)
passes_operation w job sheet p a h =
    let v = (serves_is w job).0 h.serves in
    let k = (address_call a).key in
    let o = h.keyed in
    let f = ((keyed_passed w job p k).0 o).bytes in
    record {
      sound_before = sound_is w v.is_sound_there;
      named = (v.small, address_key a h.has_edition h.has_key);
      unrefused_by = none_applies (refusals (length w.tiles) (length w.operations) (state w) (operation job sheet p k)) (ap not v.job_is_open, (o.0, (o.1.0, (o.1.1.0, tt))));
      bytes_fit = omega arith;
      ends_fit = λ m. omega arith;
    }

record Ends (w : World) (job : ℕ) : Type 0 where
  sound_there : Sound w
  job_fits : job ≤ last_job
  not_refused : not (is_open (state w) job) || false ≡ false
  room_there : w.session.journal + short_size ≤ length w.journal
  ends_there : short_size * open_marks (set w.session.marks job false) ≤ length w.journal - (w.session.journal + short_size)

ends : (w : World) (job : ℕ) → Serves w job → Ends w job
ends w job v =
    let s = sound_is w v.is_sound_there in
    let n = closes_one w.session.marks job v.job_is_open in
    let f = s.ends_fit in
    record { sound_there = s; job_fits = v.small; not_refused = both_false (ap not v.job_is_open) refl; room_there = omega arith; ends_there = omega arith }

pub passes : (w : World) (c : Call) → Passed (refusals_of w c) → Passes w (event c)
passes w (opening job) h = passes_open w job ((open_passed w job).0 h)
passes w (operating job sheet p a) h = passes_operation w job sheet p a (operation_passed w job p a h)
passes w (committing job) h =
    let e = ends w job ((serves_is w job).0 h) in
    record { sound_before = e.sound_there; named = e.job_fits; unrefused_by = e.not_refused; bytes_fit = e.room_there; ends_fit = λ m. e.ends_there }
passes w (aborting job) h =
    let e = ends w job ((serves_is w job).0 h) in
    record { sound_before = e.sound_there; named = e.job_fits; unrefused_by = e.not_refused; bytes_fit = e.room_there; ends_fit = λ m. e.ends_there }

pub record_size_lem : (e : Event) (a : Bool) → length (encode (record_of e a)) ≡ record_size e
unfolding encode
record_size_lem (open_job job) a = refl
record_size_lem (operation job sheet p k) a = refl
record_size_lem (commit job) a = refl
record_size_lem (abort job) a = refl

-- what it leaves
module _ (w : World) (e : Event) (m : length w.session.marks ≡ 64) (p : Passes w e) where
  pub after_stands : Stands (length w.tiles) (length w.operations) (perform (state w) e)
  after_stands = stands_perform (length w.tiles) (length w.operations) (state w) (tabled_stands w m p.sound_before.tables) e p.named p.unrefused_by

  pub carried_state : state (carried w e) ≡ perform (state w) e
  carried_state = state_stored w (perform (state w) e) (encode (record_of e (answer_to (state w) e))) after_stands

  fit : w.session.journal + length (encode (record_of e (answer_to (state w) e))) ≤ length w.journal
  fit = let n = record_size_lem e (answer_to (state w) e) in let f = p.bytes_fit in omega arith

  pub carried_sound : Sound (carried w e)
  carried_sound =
      sound_stored w (perform (state w) e) (encode (record_of e (answer_to (state w) e))) after_stands p.sound_before fit
      (let n = record_size_lem e (answer_to (state w) e) in let f = p.ends_fit m in omega arith)

  pub carried_journal : used_journal (carried w e) ≡ used_journal w ++ encode (record_of e (answer_to (state w) e))
  carried_journal = journal_stored w (perform (state w) e) (encode (record_of e (answer_to (state w) e))) after_stands fit

  pub carried_places : length (carried w e).tiles ≡ length w.tiles
  carried_places = places_stored w (perform (state w) e) (encode (record_of e (answer_to (state w) e))) after_stands

  pub carried_slots : length (carried w e).operations ≡ length w.operations
  carried_slots = slots_stored w (perform (state w) e) (encode (record_of e (answer_to (state w) e))) after_stands

  -- the record stands after the used bytes, and no other byte is written
  pub carried_bytes : (carried w e).journal
      ≡ take w.session.journal w.journal ++ encode (record_of e (answer_to (state w) e)) ++ drop (w.session.journal + record_size e) w.journal
  carried_bytes =
      let bytes = encode (record_of e (answer_to (state w) e)) in
      sets-eq bytes w.journal w.session.journal fit
      ∙ ap (λ n. take w.session.journal w.journal ++ bytes ++ drop (w.session.journal + n) w.journal) (record_size_lem e (answer_to (state w) e))
