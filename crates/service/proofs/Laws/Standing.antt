-- A state that an admitted event leaves stands as the one before it did: shared by the calls and the replay
use Rattle.std.specs.Prelude.{Bool, ◌&&◌, cond, false, true, List, [], ◌++◌, ◌∷◌, ◌≢◌, ◌≡◌, refl, ◌+◌, ◌<◌, ◌≤◌, suc, ℕ, eqb, ltb, get_or, length, set}
use Rattle.std.proofs.Math.Option.{none}
use Rattle.std.proofs.Common.{◌∙◌, ap, sym, arith, length-append, length-set, get_or-set_other, get_or-set_same}
use Rattle.std.proofs.lemmas.Bool.{eqb-false, not-false}
use Rattle.lists.specs.Lists.{All}
use Rattle.lists.specs.Truth.{Same, by_cond, one_if, other, same, same?}
use Rattle.strict.specs.Book.{held_by, needs_place, others, recover, places_taken}
use Rattle.strict.specs.Histories.{Event, abort, commit, mine, open_job, operation}
use Rattle.strict.proofs.Laws.Ending.{recover_ascending}
use Rattle.strict.proofs.Laws.Holding.{sheet_apart}
use Rattle.strict.proofs.Laws.Members.{ascending_apply}
use Rattle.strict.proofs.Laws.Room.{room_abort, room_commit, room_operation}
use Rattle.strict.proofs.Laws.Soundness.{sound_abort, sound_commit, sound_operation}
use Rattle.strict.specs.Operations.{Op, Step, apply, begun, clear, effect, inverse, of_sheet, put, skip}
use Rattle.strict.specs.Sound.{SoundTable}
use Rattle.strict.specs.Tiles.{Ascending, delete, insert_tile}
use Rattle.strict.specs.declared.Procedure.{Procedure}
use Rattle.grid.specs.Tile.{is_key}
use Rattle.service.specs.Admission.{State, admission, is_open, perform, refusals}
use Rattle.service.specs.Claims.{Named}
use Rattle.service.proofs.Laws.Telling.{not_held, unrefused}
use Rattle.service.specs.Limits.{job_count, last_job}
use Rattle.service.specs.Told.{refused}

-- an entry of the table that can be written down
pub record Storable (marks : List Bool) (u : Op) : Type 0 where
  pub of_open : get_or marks u.job false ≡ true
  pub valid : is_key u.key ≡ true
  pub not_done : u.done ≡ false

pub record Stands (places slots : ℕ) (s : State) : Type 0 where
  pub all_jobs : length s.marks ≡ job_count
  pub keys : All (λ k. is_key k ≡ true) s.book.tiles
  pub ascending : Ascending s.book.tiles
  pub entries : All (Storable s.marks) s.book.table
  pub table : SoundTable s.rule s.book.tiles s.book.table
  pub room : places_taken s.rule s.book ≤ places
  pub fits : length s.book.table ≤ slots

pub record Free (places slots : ℕ) (s : State) (job : ℕ) (p : Procedure) (k : ℕ) : Type 0 where
  pub unheld : held_by s.rule s.book job p k ≡ none
  pub some_room : needs_place s.rule s.book.table (begun job p k s.book.tiles) && eqb (places_taken s.rule s.book) places ≡ false
  pub some_slot : eqb (length s.book.table) slots ≡ false

pub admitted_free : (places slots : ℕ) (s : State) (job : ℕ) (p : Procedure) (k : ℕ)
    → All (λ r. r.applies ≡ false) (admission places slots s job p k) → Free places slots s job p k
admitted_free places slots s job p k e = record { unheld = not_held (held_by s.rule s.book job p k) e.0; some_room = e.1.0; some_slot = e.1.1.0 }

-- sets of valid keys
module _ {A : Type 0} (P : A → Type 0) where
  pub all_append : (xs ys : List A) → All P xs → All P ys → All P (xs ++ ys)
  all_append [] ys h i = i
  all_append (x ∷ xs) ys h i = (h.0, all_append xs ys h.1 i)

module _ (P : ℕ → Type 0) where
  all_insert : (k : ℕ) (t : List ℕ) → P k → All P t → All P (insert_tile k t)
  all_insert k [] p h = (p, tt)
  all_insert k (x ∷ xs) p h =
      let ih = all_insert k xs p h.1 in
      by_cond (All P) (ltb k x) (λ _. (p, h)) (λ _. by_cond (All P) (eqb k x) (λ _. h) (λ _. (h.0, ih)))

  all_delete : (k : ℕ) (t : List ℕ) → All P t → All P (delete k t)
  all_delete k [] h = tt
  all_delete k (x ∷ xs) h = let ih = all_delete k xs h.1 in by_cond (All P) (eqb k x) (λ _. ih) (λ _. (h.0, ih))

  pub all_apply : (a : Step) (k : ℕ) (t : List ℕ) → P k → All P t → All P (apply a k t)
  all_apply put k t p h = all_insert k t p h
  all_apply clear k t p h = all_delete k t h
  all_apply skip k t p h = h

keys_recover : (marks : List Bool) (j : ℕ) (us : List Op) (t : List ℕ) → All (Storable marks) us → All (λ k. is_key k ≡ true) t
    → All (λ k. is_key k ≡ true) (recover j us t)
keys_recover marks j [] t e h = h
keys_recover marks j (u ∷ us) t e h =
    let ih = keys_recover marks j us t e.1 h in
    by_cond (All (λ k. is_key k ≡ true)) (mine j u) (λ _. all_apply (λ k. is_key k ≡ true) (inverse u) u.key (recover j us t) e.0.valid ih) (λ _. ih)

-- marks
pub open_set : (ms : List Bool) (job i : ℕ) (b : Bool) → job < length ms → get_or (set ms job b) i false ≡ cond (eqb job i) b (get_or ms i false)
open_set ms job i b l = go (same? job i)
  where
    go : Same job i → get_or (set ms job b) i false ≡ cond (eqb job i) b (get_or ms i false)
    go (same p q) = rw q (ap (λ x. get_or (set ms job b) x false) (sym p) ∙ get_or-set_same ms job b false l)
    go (other p q) = rw q (get_or-set_other ms job i b false (λ z. p (sym z)))

storable_open : (ms : List Bool) (job : ℕ) (us : List Op) → job < length ms → All (Storable ms) us → All (Storable (set ms job true)) us
storable_open ms job [] l h = tt
storable_open ms job (u ∷ us) l h = (
  record { of_open = open_set ms job u.job true l ∙ go (eqb job u.job); valid = h.0.valid; not_done = h.0.not_done },
  storable_open ms job us l h.1,
)
  where
    go : (b : Bool) → cond b true (get_or ms u.job false) ≡ true
    go true = refl
    go false = h.0.of_open

storable_end : (ms : List Bool) (job : ℕ) (us : List Op) → job < length ms → All (Storable ms) us → All (Storable (set ms job false)) (others job us)
storable_end ms job [] l h = tt
storable_end ms job (u ∷ us) l h = go (mine job u) refl (storable_end ms job us l h.1)
  where
    go : (b : Bool) → mine job u ≡ b → All (Storable (set ms job false)) (others job us)
        → All (Storable (set ms job false)) (cond b (others job us) (u ∷ others job us))
    go true e i = i
    go false e i = (
      record {
        of_open = let d : eqb job u.job ≡ false = rw h.0.not_done at e in open_set ms job u.job false l ∙ rw d h.0.of_open;
        valid = h.0.valid;
        not_done = h.0.not_done;
      },
      i,
    )

length_others : (j : ℕ) (us : List Op) → length (others j us) ≤ length us
length_others j [] = omega arith
length_others j (u ∷ us) = go (mine j u) (length_others j us)
  where
    go : (b : Bool) → length (others j us) ≤ length us → length (cond b (others j us) (u ∷ others j us)) ≤ suc (length us)
    go true i = omega arith
    go false i = omega arith

-- a place for an operation that needs one
pub room_left : (b : Bool) (places n : ℕ) → b && eqb n places ≡ false → n ≤ places → n + one_if b ≤ places
room_left true places n e l = let d : n ≢ places = eqb-false n places e in omega arith
room_left false places n e l = omega arith

-- the step
module _ (places slots : ℕ) (s : State) (h : Stands places slots s) where
  stands_operation : (job sheet : ℕ) (p : Procedure) (k : ℕ) → is_key k ≡ true → is_open s job ≡ true → Free places slots s job p k
      → Stands places slots (perform s (operation job sheet p k))
  stands_operation job sheet p k valid job_is_open free =
      let t = s.book.tiles in
      let us = s.book.table in
      let o = of_sheet sheet (begun job p k t) in
      record {
        all_jobs = h.all_jobs;
        keys = all_apply (λ x. is_key x ≡ true) (effect p) k t valid h.keys;
        ascending = ascending_apply (effect p) k t h.ascending;
        entries = all_append (Storable s.marks) us (o ∷ []) h.entries (record { of_open = job_is_open; valid = valid; not_done = refl }, tt);
        table = sound_operation s.rule t us o h.table refl refl (sheet_apart s.rule sheet (begun job p k t) us ∙ free.unheld);
        room = let e = room_operation s.rule s.book job sheet p k h.ascending in
            let l = room_left (needs_place s.rule us (begun job p k t)) places (places_taken s.rule s.book) free.some_room h.room in
            omega arith;
        fits = let n : length us ≢ slots = eqb-false (length us) slots free.some_slot in let m = h.fits in simp length-append (omega arith);
      }

  stands_open : (job : ℕ) → job ≤ last_job → Stands places slots (perform s (open_job job))
  stands_open job l =
      let n = h.all_jobs in
      record {
        all_jobs = length-set s.marks job true ∙ h.all_jobs;
        keys = h.keys;
        ascending = h.ascending;
        entries = storable_open s.marks job s.book.table (omega arith) h.entries;
        table = h.table;
        room = h.room;
        fits = h.fits;
      }

  stands_commit : (job : ℕ) → job ≤ last_job → Stands places slots (perform s (commit job))
  stands_commit job l =
      let n = h.all_jobs in
      record {
        all_jobs = length-set s.marks job false ∙ h.all_jobs;
        keys = h.keys;
        ascending = h.ascending;
        entries = storable_end s.marks job s.book.table (omega arith) h.entries;
        table = sound_commit s.rule job s.book.tiles s.book.table h.table;
        room = let m = room_commit s.rule job s.book h.ascending in let r = h.room in omega arith;
        fits = let m = length_others job s.book.table in let r = h.fits in omega arith;
      }

  stands_abort : (job : ℕ) → job ≤ last_job → Stands places slots (perform s (abort job))
  stands_abort job l =
      let n = h.all_jobs in
      record {
        all_jobs = length-set s.marks job false ∙ h.all_jobs;
        keys = keys_recover s.marks job s.book.table s.book.tiles h.entries h.keys;
        ascending = recover_ascending job s.book.table s.book.tiles h.ascending;
        entries = storable_end s.marks job s.book.table (omega arith) h.entries;
        table = sound_abort s.rule job s.book.tiles s.book.table h.table;
        room = let m = room_abort s.rule job s.book h.ascending in let r = h.room in omega arith;
        fits = let m = length_others job s.book.table in let r = h.fits in omega arith;
      }

  pub stands_perform : (e : Event) → Named e → refused (refusals places slots s e) ≡ false → Stands places slots (perform s e)
  stands_perform (open_job job) n r = stands_open job n
  stands_perform (operation job sheet p k) n r =
      let a = unrefused (refusals places slots s (operation job sheet p k)) r in
      stands_operation job sheet p k n.1 (not-false _ a.0) (admitted_free places slots s job p k a.1)
  stands_perform (commit job) n r = stands_commit job n
  stands_perform (abort job) n r = stands_abort job n
