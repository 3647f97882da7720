-- A list of operations on different tiles: it fits just where its operations, called one after another, are all done
use Rattle.std.specs.Prelude.{Bool, ◌&&◌, false, not, true, List, [], ◌∷◌, ◌≢◌, ◌≡◌, refl, ◌+◌, ◌<◌, ◌≤◌, ℕ, eqb, get_or, length}
use Rattle.std.proofs.Math.Option.{Option, none, some}
use Rattle.std.proofs.Common.{◌∙◌, ap, subst, sym, arith, length-append, eqb-true, le-ltb, ltb-false, ne_eqb}
use Rattle.std.proofs.Math.Seq.{length-sets, slice}
use Rattle.std.proofs.lemmas.Bool.{not-false}
use Rattle.lists.specs.Lists.{All, slice_end, slice_next}
use Rattle.lists.specs.Truth.{one_if}
use Rattle.strict.specs.Book.{Book, held_by, needs_place, places_taken, step}
use Rattle.strict.specs.Commutativity.{Signature}
use Rattle.strict.specs.Histories.{operation}
use Rattle.strict.proofs.Laws.Room.{room_operation}
use Rattle.strict.specs.Operations.{begun}
use Rattle.strict.specs.declared.Procedure.{Procedure}
use Rattle.grid.proofs.Laws.Keys.{key_valid}
use Rattle.grid.specs.Limits.{north_edition}
use Rattle.grid.specs.Tile.{address_call, is_key, key_of, placed_at, turns_in}
use Rattle.grid.specs.declared.Address.{Address}
use Rattle.service.specs.Admission.{State, answer_to, refusals}
use Rattle.service.specs.Calls.{carried, keyed_refusals}
use Rattle.service.specs.Claims.{Passes, Serves, operation_bytes}
use Rattle.service.specs.History.{Call, call, event, operating}
use Rattle.service.specs.Journal.{encode, record_of}
use Rattle.service.proofs.Laws.Accepting.{accepted, carried_places, carried_slots, carried_sound, carried_state, left_carried, passed, passes, record_size_lem, serves_is}
use Rattle.service.proofs.Laws.Soundness.{is_sound, sound_is}
use Rattle.service.proofs.Laws.Storing.{tabled_stands}
use Rattle.service.proofs.Laws.Telling.{Passed, not_held, unrefused}
use Rattle.service.specs.Limits.{job_count, last_job, operation_size}
use Rattle.service.specs.Told.{refuse_held}
use Rattle.service.specs.World.{World, free_bytes, state}
use Rattle.rectangles.specs.Claims.{AllDone, Apart, left_by, operations}
use Rattle.rectangles.specs.Fitting.{Ahead, Fits, Placed}
use Rattle.rectangles.proofs.Laws.Apart.{first_held_same, needed_same}
use Rattle.rectangles.specs.Rectangles.{carried_all, first_held, first_of, key_for, keys, needed, unplaced}

pub first_none : (o q : Option Signature) → first_of o q ≡ none → (o ≡ none) × (q ≡ none)
first_none none q e = (refl, e)
first_none (some j) q e = absurd (let z : ◌≡◌ {A = ℕ} 0 1 = cc in omega arith)

-- a place for it, as the check has it
room_free : (b : Bool) (places n : ℕ) → n + one_if b ≤ places → b && eqb n places ≡ false
room_free true places n l = ne_eqb n places (λ e. omega arith)
room_free false places n l = refl

module _ (w : World) (job sheet : ℕ) (p : Procedure) (a : Address) where
  abbrev one : Call
  one = operating job sheet p a

  -- the first of a list that fits is done
  pub first_done : (ks : List ℕ) → unplaced a ≡ false → Fits w job p (key_for a ∷ ks) → (call w one).told.number ≡ 0
  first_done ks placed f =
      let m = (state w).book in
      let h = (first_none (held_by w.session.rule m job p (key_for a)) (first_held w.session.rule m job p ks) f.unheld).0 in
      let room = room_free (needs_place w.session.rule m.table (begun job p (key_for a) m.tiles)) (length w.tiles) (places_taken w.session.rule m) (let x = f.places in omega arith) in
      let slot = ne_eqb (length m.table) (length w.operations) (λ e. let x = f.slots in omega arith) in
      let bytes = le-ltb (free_bytes w) (operation_bytes w) (let x = f.bytes in omega arith) in
      let last : Passed (keyed_refusals w job p (key_for a)) = (ap (λ o. (refuse_held o).applies) h, (room, (slot, (bytes, tt)))) in
      let v = (serves_is w job).1 f.ready in
      let number : (address_call a).number ≡ 0 = eqb-true _ 0 (not-false _ placed) in
      (accepted w one).1 (v.0, (v.1.0, (v.1.1.0, (ap (λ n. eqb n 14) number, (ap (λ n. eqb n 5) number, last)))))

-- what an operation that may happen leaves fits the rest just where the world fits the list
module _ (w : World) (job sheet : ℕ) (p : Procedure) (k : ℕ) (full : length w.session.marks ≡ job_count) (may : Passes w (operation job sheet p k)) where
  abbrev then : World
  then = carried w (operation job sheet p k)

  record Moves (ks : List ℕ) : Type 0 where
    ready_before : Serves w job
    ready_then : Serves then job
    held_then : first_held then.session.rule (state then).book job p ks ≡ first_held w.session.rule (state w).book job p (k ∷ ks)
    room_then : places_taken then.session.rule (state then).book + needed then.session.rule (state then).book job p ks ≡ places_taken w.session.rule (state w).book + needed w.session.rule (state w).book job p (k ∷ ks)
    table_then : length (state then).book.table ≡ length (state w).book.table + 1
    places_then : length then.tiles ≡ length w.tiles
    slots_then : length then.operations ≡ length w.operations
    journal_then : length then.journal ≡ length w.journal
    bytes_then : free_bytes then + operation_size ≡ free_bytes w

  moves : (ks : List ℕ) → All (λ i. k ≢ i) ks → Moves ks
  moves ks apart =
      let e = operation job sheet p k in
      let m = (state w).book in
      let n = step m e in
      let bytes = encode (record_of e (answer_to (state w) e)) in
      let h = unrefused (refusals (length w.tiles) (length w.operations) (state w) e) may.unrefused_by in
      let held : held_by w.session.rule m job p k ≡ none = not_held (held_by w.session.rule m job p k) h.1.0 in
      let book : (state then).book ≡ n = ap (λ (s : State). s.book) (carried_state w e full may) in
      let grown : places_taken w.session.rule n ≡ places_taken w.session.rule m + one_if (needs_place w.session.rule m.table (begun job p k m.tiles)) = room_operation w.session.rule m job sheet p k may.sound_before.tables.ascending in
      let same : needed w.session.rule n job p ks ≡ needed w.session.rule m job p ks = needed_same w.session.rule m job sheet p k ks apart in
      let long : length bytes ≡ operation_size = record_size_lem e (answer_to (state w) e) in
      let kept : length then.journal ≡ length w.journal = length-sets w.journal w.session.journal bytes in
      let fit = may.bytes_fit in
      let job_is_open = not-false _ h.0 in
      record {
        ready_before = record { is_sound_there = is_sound w may.sound_before; small = may.named.0; job_is_open = job_is_open };
        ready_then = record { is_sound_there = is_sound then (carried_sound w e full may); small = may.named.0; job_is_open = job_is_open };
        held_then = ap (λ x. first_held w.session.rule x job p ks) book ∙ first_held_same w.session.rule m job sheet p k ks apart ∙ ap (λ o. first_of o (first_held w.session.rule m job p ks)) (sym held);
        room_then = ap (λ (x : Book). places_taken w.session.rule x + needed w.session.rule x job p ks) book ∙ omega arith;
        table_then = ap (λ (x : Book). length x.table) book ∙ length-append m.table _;
        places_then = carried_places w e full may;
        slots_then = carried_slots w e full may;
        journal_then = kept;
        bytes_then = omega arith;
      }

  pub still_ready : Serves then job
  still_ready = (moves [] tt).ready_then

  pub fits_then : (ks : List ℕ) → All (λ i. k ≢ i) ks → Fits w job p (k ∷ ks) → Fits then job p ks
  fits_then ks apart f =
      let m = moves ks apart in
      let x = f.places in
      let y = f.slots in
      let z = f.bytes in
      record { ready = m.ready_then; unheld = m.held_then ∙ f.unheld; places = omega arith; slots = omega arith; bytes = omega arith }

  pub fits_before : (ks : List ℕ) → All (λ i. k ≢ i) ks → Fits then job p ks → Fits w job p (k ∷ ks)
  fits_before ks apart f =
      let m = moves ks apart in
      let x = f.places in
      let y = f.slots in
      let z = f.bytes in
      record { ready = m.ready_before; unheld = sym m.held_then ∙ f.unheld; places = omega arith; slots = omega arith; bytes = omega arith }

module _ (job sheet : ℕ) (p : Procedure) where
  -- from the last to the first: what is left to do fits
  pub done_fits : (xs : List Address) (w : World) → Apart (keys xs) → length w.session.marks ≡ job_count
      → Serves w job → AllDone w (operations job sheet p xs) → Fits w job p (keys xs)
  done_fits [] w apart full ready done =
      let o = sound_is w ready.is_sound_there in
      let s = tabled_stands w full o.tables in
      record {
        ready = ready;
        unheld = refl;
        places = let x = s.room in omega arith;
        slots = let x = s.fits in omega arith;
        bytes = let x = o.ends_fit in omega arith;
      }
  done_fits (a ∷ xs) w apart full ready done =
      let c = operating job sheet p a in
      let may = passes w c (passed w c done.0) in
      let rest : AllDone (carried w (event c)) (operations job sheet p xs) = subst (λ x. AllDone x (operations job sheet p xs)) (left_carried w c done.0) done.1 in
      fits_before w job sheet p (key_for a) full may (keys xs) apart.0
      (done_fits xs (carried w (event c)) apart.1 full (still_ready w job sheet p (key_for a) full may) rest)

  pub fits_done : (xs : List Address) (w : World) → Apart (keys xs) → Placed xs → length w.session.marks ≡ job_count
      → Fits w job p (keys xs) → AllDone w (operations job sheet p xs) × (left_by w (operations job sheet p xs) ≡ carried_all w job sheet p (keys xs))
  fits_done [] w apart placed full fits = (tt, refl)
  fits_done (a ∷ xs) w apart placed full fits =
      let c = operating job sheet p a in
      let ok = first_done w job sheet p a (keys xs) placed.0 fits in
      let may = passes w c (passed w c ok) in
      let ih = fits_done xs (carried w (event c)) apart.1 placed.1 full (fits_then w job sheet p (key_for a) full may (keys xs) apart.0 fits) in
      let left : (call w c).after ≡ carried w (event c) = left_carried w c ok in (
        (ok, subst (λ x. AllDone x (operations job sheet p xs)) (sym left) ih.0),
        ap (λ x. left_by x (operations job sheet p xs)) left ∙ ih.1,
      )

-- the first of a list that is done found the world ready
pub done_ready : (w : World) (job sheet : ℕ) (p : Procedure) (a : Address) → (call w (operating job sheet p a)).told.number ≡ 0 → Serves w job
done_ready w job sheet p a ok =
    let h = passed w (operating job sheet p a) ok in
    record { is_sound_there = not-false _ h.0; small = ltb-false last_job job h.1.0; job_is_open = not-false _ h.1.1.0 }

-- THE PASS THAT CARRIES OUT
-- the first of a list that fits may happen
pub fits_passes : (w : World) (job sheet : ℕ) (p : Procedure) (k : ℕ) (ks : List ℕ) → is_key k ≡ true → Fits w job p (k ∷ ks) → Passes w (operation job sheet p k)
unfolding key_of
fits_passes w job sheet p k ks valid f =
    let v = key_valid k valid in
    let a : Address = record { edition = north_edition; zoom = v.0; column = v.1; row = v.2 } in
    let same : key_for a ≡ k = ap (λ o. (placed_at o (turns_in a)).key) v.3 in
    let placed : unplaced a ≡ false = ap (λ o. not (eqb (placed_at o (turns_in a)).number 0)) v.3 in
    let c = operating job sheet p a in
    subst (λ x. Passes w (operation job sheet p x)) same
    (passes w c (passed w c (first_done w job sheet p a ks placed (subst (λ x. Fits w job p (x ∷ ks)) (sym same) f))))

module _ {job sheet : ℕ} {p : Procedure} where
  pub ahead_start : (w : World) (ks : List ℕ) → length w.session.marks ≡ job_count → All (λ k. is_key k ≡ true) ks → Apart ks → Fits w job p ks → Ahead job sheet p w ks w ks
  ahead_start w ks full valid apart fits =
      record { valid = valid; apart = apart; fits = fits; ahead = refl; same_places = refl; same_slots = refl; same_journal = refl; all_jobs = full }

  pub ahead_passes : {w₀ w : World} {ks₀ : List ℕ} (k : ℕ) (ks : List ℕ) → Ahead job sheet p w₀ ks₀ w (k ∷ ks) → Passes w (operation job sheet p k)
  ahead_passes {w = w} k ks a = fits_passes w job sheet p k ks a.valid.0 a.fits

  pub ahead_more : {w₀ w : World} {ks₀ : List ℕ} (k : ℕ) (ks : List ℕ) → Ahead job sheet p w₀ ks₀ w (k ∷ ks)
      → Ahead job sheet p w₀ ks₀ (carried w (operation job sheet p k)) ks
  ahead_more {w = w} k ks a =
      let full = a.all_jobs in
      let may = ahead_passes k ks a in
      let m = moves w job sheet p k full may ks a.apart.0 in
      record {
        valid = a.valid.1;
        apart = a.apart.1;
        fits = fits_then w job sheet p k full may ks a.apart.0 a.fits;
        ahead = a.ahead;
        same_places = m.places_then ∙ a.same_places;
        same_slots = m.slots_then ∙ a.same_slots;
        same_journal = m.journal_then ∙ a.same_journal;
        all_jobs = full;
      }

  -- over the first n of a list of keys: before turn i, `slice i n l` is left
  module _ {w₀ w : World} {ks₀ : List ℕ} (l : List ℕ) (n i : ℕ) (a : Ahead job sheet p w₀ ks₀ w (slice i n l)) where
    module _ (fits : n ≤ length l) (inside : i < n) where
      ahead_next : Ahead job sheet p w₀ ks₀ w (get_or l i 0 ∷ slice (i + 1) n l)
      ahead_next = subst (Ahead job sheet p w₀ ks₀ w) (slice_next l n i fits inside) a

      pub pass_may : Passes w (operation job sheet p (get_or l i 0))
      pass_may = ahead_passes (get_or l i 0) (slice (i + 1) n l) ahead_next

      pub pass_more : (v : World) → v ≡ carried w (operation job sheet p (get_or l i 0)) → Ahead job sheet p w₀ ks₀ v (slice (i + 1) n l)
      pass_more v is = subst (λ x. Ahead job sheet p w₀ ks₀ x (slice (i + 1) n l)) (sym is) (ahead_more (get_or l i 0) (slice (i + 1) n l) ahead_next)

    pub pass_over : n ≤ i → w ≡ carried_all w₀ job sheet p ks₀
    pass_over e = ap (carried_all w job sheet p) (sym (slice_end l n i e)) ∙ a.ahead
