-- From turn to turn of the pass that decides, and what a list is told
use Rattle.std.specs.Prelude.{Bool, Result, Ok, Err, false, not, true, ◌≡◌, ◌+◌, ◌<◌, ◌≤◌, ℕ, drop, eqb, get_or, length, ◌*◌}
use mathlib.Core.List.{List, [], ◌∷◌, map}
use Rattle.std.proofs.Math.Option.{Option, none, some}
use Rattle.std.proofs.Common.{◌∙◌, sym, add-one, drop-cons, arith, le-ltb, lt-ltb}
use Rattle.std.proofs.Math.Path.{ap, refl, subst}
use native.Mathlib.Omega.{arith}
use Rattle.std.proofs.lemmas.Bool.{eqb-false, not-true}
use Rattle.std.proofs.lemmas.List.{drop_all}
use Rattle.lists.specs.Truth.{both, one_if}
use Rattle.strict.specs.Book.{Book, held_by, needs_place, places_taken}
use Rattle.strict.specs.Commutativity.{Signature, holder}
use Rattle.strict.specs.Operations.{Op, begun, kind}
use Rattle.strict.specs.Tiles.{member}
use Rattle.strict.specs.declared.Procedure.{Procedure}
use Rattle.strict.specs.declared.Rule.{Rule}
use Rattle.service.specs.Entry.{key_in, op_in}
use Rattle.service.specs.Told.{bare, decided, told_held}
use Rattle.service.specs.World.{World, state, free_bytes}
use Rattle.service.specs.declared.Told.{Told}
use Rattle.rectangles.proofs.Laws.Apart.{holds_not}
use Rattle.rectangles.specs.Rectangles.{first_held, first_of, list_refusals, most_in_rectangle, needed}
use Rattle.filter.specs.Filter.{elsewhere}
use Rattle.rules.specs.Laws.{place_wanted, unmet_wants}
use Rattle.judging.specs.Looks.{list_of, look_of, room_for}
use Rattle.admission.specs.Laws as one
use Rattle.admission.specs.Verdicts.{book_of, held_or}
use Rattle.rules.specs.Rules.{wants_place}
use Rattle.tiles.specs.declared.Spot.{Spot}
use Rattle.admission.specs.declared.Holder.{Holder}
use Rattle.service.specs.Admission.{open_marks}
use Rattle.service.specs.Limits.{operation_size, short_size}

-- what one look means
abbrev pub Sees : Rule → Book → ℕ → Procedure → ℕ → Result Bool Holder → Type 0
Sees b m job p k (Err by) = held_by b m job p k ≡ some (record { job = by.job; sheet = by.sheet })
Sees b m job p k (Ok needs) = (held_by b m job p k ≡ none) × (needs_place b m.table (begun job p k m.tiles) ≡ needs)

module _ (b : Rule) (m : Book) (job : ℕ) (p : Procedure) (k : ℕ) where
  pub held : (by : Holder) → held_by b m job p k ≡ some (record { job = by.job; sheet = by.sheet }) → Err by ≡ look_of b m job p k
  unfolding look_of
  held by h = rw h

  pub free : (needs : Bool) → held_by b m job p k ≡ none → needs_place b m.table (begun job p k m.tiles) ≡ needs → Ok needs ≡ look_of b m job p k
  unfolding look_of
  free needs h e = rw (h, e)

  -- where the kind is the one that what was found gives
  pub free_found : (x : Spot) → one.Finds b m job p k (Ok x) → {n : ℕ} → n ≡ kind p x.there → {needs : Bool} → needs ≡ wants_place b m.table n k → Ok needs ≡ look_of b m job p k
  free_found x found of_kind is = free _ found.0 (rw (place_wanted job p k m.tiles b m.table, is, of_kind, found.1))

  sees : Sees b m job p k (look_of b m job p k)
  unfolding look_of
  sees = go (held_by b m job p k) refl
    where
      go : (o : Option Signature) → held_by b m job p k ≡ o → Sees b m job p k (held_or o (needs_place b m.table (begun job p k m.tiles)))
      go (some by) e = e
      go none e = (e, refl)

  pub seen_so : (v u : Result Bool Holder) → v ≡ look_of b m job p k → v ≡ u → Sees b m job p k u
  seen_so v u is seen = subst (Sees b m job p k) (sym is ∙ seen) sees

-- A TILE THAT NO ENTRY HAS is held by nobody, and needs a place just where it is inserted and absent
none_there : (b : Rule) (o : Op) (es : List ℕ) → elsewhere o.key es ≡ true → holder b o (map op_in es) ≡ none
none_there b o [] h = refl
none_there b o (e ∷ es) h =
    let two = both (not (eqb o.key (key_in e))) (elsewhere o.key es) h in
    rw (holds_not b o (op_in e) (eqb-false o.key (key_in e) (not-true (eqb o.key (key_in e)) two.0))) (none_there b o es two.1)

pub apart_free : (b : Rule) (t es : List ℕ) (job : ℕ) (p : Procedure) (k : ℕ) → elsewhere k es ≡ true
    → Ok (eqb (kind p (member k t)) 1) ≡ look_of b (book_of t es) job p k
apart_free b t es job p k h =
    let o = begun job p k t in
    free b (book_of t es) job p k _ (none_there b o es h) (place_wanted job p k t b (map op_in es) ∙ unmet_wants b es (kind p (member k t)) k h)

pub one_more : (b : Bool) → one_if b ≤ 1
one_more true = omega arith
one_more false = omega arith

-- ks₀ has what ks has, and `need` tiles before it that need a place
pub record Left (b : Rule) (m : Book) (job : ℕ) (p : Procedure) (ks₀ : List ℕ) (need : ℕ) (ks : List ℕ) : Type 0 where
  pub held_left : first_held b m job p ks₀ ≡ first_held b m job p ks
  pub need_left : needed b m job p ks₀ ≡ need + needed b m job p ks

pub left_start : (b : Rule) (m : Book) (job : ℕ) (p : Procedure) (ks : List ℕ) → Left b m job p ks 0 ks
left_start b m job p ks = record { held_left = refl; need_left = omega arith }

module _ {b : Rule} {m : Book} {job : ℕ} {p : Procedure} {ks₀ : List ℕ} {need : ℕ} (l : List ℕ) (i : ℕ) (a : Left b m job p ks₀ need (drop i l)) where
  module _ (inside : i < length l) where
    left_next : Left b m job p ks₀ need (get_or l i 0 ∷ drop (i + 1) l)
    left_next = rw add-one (subst (Left b m job p ks₀ need) (drop-cons l i 0 inside) a)

    pub left_more : (needs : Bool) (need' : ℕ) → Sees b m job p (get_or l i 0) (Ok needs) → need' ≡ need + one_if needs → Left b m job p ks₀ need' (drop (i + 1) l)
    left_more needs need' s more =
        let a = left_next in
        let h = a.need_left in
        let e : one_if (needs_place b m.table (begun job p (get_or l i 0) m.tiles)) ≡ one_if needs = ap one_if s.1 in
        record { held_left = a.held_left ∙ ap (λ o. first_of o (first_held b m job p (drop (i + 1) l))) s.0; need_left = omega arith }

    pub left_held : (by : Holder) → Sees b m job p (get_or l i 0) (Err by) → Err by ≡ list_of b m job p ks₀
    unfolding list_of
    left_held by s =
        let e : first_held b m job p ks₀ ≡ some (record { job = by.job; sheet = by.sheet }) = left_next.held_left ∙ ap (λ o. first_of o (first_held b m job p (drop (i + 1) l))) s in
        rw e

  pub left_over : length l ≤ i → Ok need ≡ list_of b m job p ks₀
  unfolding list_of
  left_over over =
      let e : Left b m job p ks₀ need [] = subst (Left b m job p ks₀ need) (drop_all i l over) a in
      let h : first_held b m job p ks₀ ≡ none = e.held_left in
      let c : needed b m job p ks₀ ≡ need = e.need_left ∙ omega arith in
      rw (h, c)

-- what a list finds
abbrev pub Finds : Rule → Book → ℕ → Procedure → List ℕ → Result ℕ Holder → Type 0
Finds b m job p ks (Err by) = first_held b m job p ks ≡ some (record { job = by.job; sheet = by.sheet })
Finds b m job p ks (Ok need) = (first_held b m job p ks ≡ none) × (needed b m job p ks ≡ need)

pub finds : (b : Rule) (m : Book) (job : ℕ) (p : Procedure) (ks : List ℕ) (v u : Result ℕ Holder) → v ≡ list_of b m job p ks → v ≡ u → Finds b m job p ks u
unfolding list_of
finds b m job p ks v u is seen = subst (Finds b m job p ks) (sym is ∙ seen) (go (first_held b m job p ks) refl)
  where
    go : (o : Option Signature) → first_held b m job p ks ≡ o → Finds b m job p ks (held_or o (needed b m job p ks))
    go (some by) e = e
    go none e = (e, refl)

-- no more than there are
pub needed_few : (b : Rule) (m : Book) (job : ℕ) (p : Procedure) (ks : List ℕ) → needed b m job p ks ≤ length ks
needed_few b m job p [] = omega arith
needed_few b m job p (k ∷ ks) = let ih = needed_few b m job p ks in let o = one_more (needs_place b m.table (begun job p k m.tiles)) in omega arith

-- 6, AND THEN THE ROOM
module _ (w : World) (job : ℕ) (p : Procedure) (ks : List ℕ) where
  pub held_told : (by : Holder) → Finds w.session.rule (state w).book job p ks (Err by)
      → told_held (record { job = by.job; sheet = by.sheet }) ≡ decided (list_refusals w job p ks) (bare 0)
  held_told by h = rw h

  module _ (need : ℕ) (h : Finds w.session.rule (state w).book job p ks (Ok need)) where
    pub need_few : length ks ≤ most_in_rectangle → need ≤ most_in_rectangle
    need_few few = let a = needed_few w.session.rule (state w).book job p ks in let b = h.1 in omega arith

    pub room_told : (t : Told) → t ≡ decided (room_for w need (length ks)) (bare 0) → t ≡ decided (list_refusals w job p ks) (bare 0)
    room_told t e = e ∙ sym (rw h.0 (ap (λ a. decided (room_for w a (length ks)) (bare 0)) h.1))

pub counts : (need : ℕ) (b : Bool) → b ≡ true → need + 1 ≡ need + one_if b
counts need b e = rw e

pub counts_not : (need : ℕ) (b : Bool) → b ≡ false → need ≡ need + one_if b
counts_not need b e = rw e (omega arith)

-- THE ROOM: 7, 8 and 9
module _ (w : World) (need n : ℕ) where
  pub no_places : length w.tiles < places_taken w.session.rule (state w).book + need → bare 7 ≡ decided (room_for w need n) (bare 0)
  no_places h = rw (lt-ltb _ _ h)

  module _ (places : places_taken w.session.rule (state w).book + need ≤ length w.tiles) where
    pub no_slots : length w.operations < length (state w).book.table + n → bare 8 ≡ decided (room_for w need n) (bare 0)
    no_slots h = rw (le-ltb _ _ places, lt-ltb _ _ h)

    module _ (slots : length (state w).book.table + n ≤ length w.operations) where
      pub no_bytes_lem : free_bytes w < operation_size * n + short_size * open_marks w.session.marks → bare 9 ≡ decided (room_for w need n) (bare 0)
      no_bytes_lem h = rw (le-ltb _ _ places, le-ltb _ _ slots, lt-ltb _ _ h)

      pub room_enough : operation_size * n + short_size * open_marks w.session.marks ≤ free_bytes w → bare 0 ≡ decided (room_for w need n) (bare 0)
      room_enough h = rw (le-ltb _ _ places, le-ltb _ _ slots, le-ltb _ _ h)
