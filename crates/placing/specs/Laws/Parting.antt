-- A list that fits, carried out in two parts
use Rattle.std.specs.Prelude.{true, List, [], ◌++◌, ◌∷◌, ◌≢◌, ◌≡◌, refl, ◌≤◌, ℕ, drop, length, take}
use Rattle.std.proofs.Math.Option.{none}
use Rattle.std.proofs.Common.{◌∙◌, ap, ap₂, subst, sym, arith, length-append, take-append-drop}
use Rattle.lists.specs.Lists.{All, padded}
use Rattle.strict.specs.Book.{Book, held_by}
use Rattle.strict.specs.declared.Procedure.{Procedure}
use Rattle.strict.specs.declared.Rule.{Rule}
use Rattle.grid.specs.Tile.{is_key}
use Rattle.service.specs.World.{World, state, world}
use Rattle.service.specs.Calls.{carried}
use Rattle.strict.specs.Histories.{operation}
use Rattle.service.specs.declared.Session.{Session}
use Rattle.rectangles.specs.Claims.{Apart}
use Rattle.rectangles.specs.Fitting.{Ahead, Fits}
use Rattle.rectangles.proofs.Laws.Fitting.{ahead_more, first_none}
use Rattle.rectangles.specs.Rectangles.{carried_all, first_held, first_of, needed}
use Rattle.noting.specs.Noting.{Noted, tiles_left}

-- the first part
all_first : (P : ℕ → Type 0) (xs ys : List ℕ) → All P (xs ++ ys) → All P xs
all_first P [] ys h = tt
all_first P (x ∷ xs) ys h = (h.0, all_first P xs ys h.1)

apart_first : (xs ys : List ℕ) → Apart (xs ++ ys) → Apart xs
apart_first [] ys a = tt
apart_first (x ∷ xs) ys a = (all_first (λ i. x ≢ i) xs ys a.0, apart_first xs ys a.1)

module _ (r : Rule) (m : Book) (job : ℕ) (p : Procedure) where
  held_first : (xs ys : List ℕ) → first_held r m job p (xs ++ ys) ≡ none → first_held r m job p xs ≡ none
  held_first [] ys e = refl
  held_first (x ∷ xs) ys e =
      let h = first_none (held_by r m job p x) (first_held r m job p (xs ++ ys)) e in
      ap₂ first_of h.0 (held_first xs ys h.1)

  needed_first : (xs ys : List ℕ) → needed r m job p xs ≤ needed r m job p (xs ++ ys)
  needed_first [] ys = omega arith
  needed_first (x ∷ xs) ys = let ih = needed_first xs ys in omega arith

fits_first : (w : World) (job : ℕ) (p : Procedure) (xs ys : List ℕ) → Fits w job p (xs ++ ys) → Fits w job p xs
fits_first w job p xs ys f =
    let n = length-append xs ys in
    let few = needed_first w.session.rule (state w).book job p xs ys in
    record {
      ready = f.ready;
      unheld = held_first w.session.rule (state w).book job p xs ys f.unheld;
      places = let x = f.places in omega arith;
      slots = let x = f.slots in omega arith;
      bytes = let x = f.bytes in omega arith;
    }

module _ {job sheet : ℕ} {p : Procedure} {w₀ : World} {ks₀ : List ℕ} where
  ahead_first : (w : World) (xs ys : List ℕ) → Ahead job sheet p w₀ ks₀ w (xs ++ ys) → Ahead job sheet p w xs w xs
  ahead_first w xs ys a =
      record {
        valid = all_first (λ k. is_key k ≡ true) xs ys a.valid;
        apart = apart_first xs ys a.apart;
        fits = fits_first w job p xs ys a.fits;
        ahead = refl;
        same_places = refl;
        same_slots = refl;
        same_journal = refl;
        all_jobs = a.all_jobs;
      }

  -- and the second behind it
  ahead_along : (w : World) (xs ys : List ℕ) → Ahead job sheet p w₀ ks₀ w (xs ++ ys) → Ahead job sheet p w₀ ks₀ (carried_all w job sheet p xs) ys
  ahead_along w [] ys a = a
  ahead_along w (x ∷ xs) ys a = ahead_along (carried w (operation job sheet p x)) xs ys (ahead_more x (xs ++ ys) a)

-- A RUN: the first n of ks, and those behind
module _ {job sheet : ℕ} {p : Procedure} {w₀ w : World} {ks₀ : List ℕ} (ks : List ℕ) (n : ℕ) (a : Ahead job sheet p w₀ ks₀ w ks) where
  parted : Ahead job sheet p w₀ ks₀ w (take n ks ++ drop n ks)
  parted = subst (Ahead job sheet p w₀ ks₀ w) (sym (take-append-drop n ks)) a

  pub run_may : Ahead job sheet p w (take n ks) w (take n ks)
  run_may = ahead_first w (take n ks) (drop n ks) parted

  pub run_more : (v : World) → v ≡ carried_all w job sheet p (take n ks) → Ahead job sheet p w₀ ks₀ v (drop n ks)
  run_more v is = subst (λ x. Ahead job sheet p w₀ ks₀ x (drop n ks)) (sym is) (ahead_along w (take n ks) (drop n ks) parted)

-- what was noted of a run, with its tiles moved
pub run_done : {w : World} {job sheet : ℕ} {p : Procedure} {ks : List ℕ} {s : Session} {o j : List ℕ} (t : List ℕ) → Noted w job sheet p ks s o j
    → t ≡ padded (length w.tiles) (tiles_left w p ks) → world s t o j ≡ carried_all w job sheet p ks
run_done {s = s} {o = o} {j = j} t n is = ap (λ x. world s x o j) is ∙ n.done
