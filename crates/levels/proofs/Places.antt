-- The tiles of a level stand between the places of two numbers, and a list that has each count in its place is the list of the levels
use mathlib.Core.Bool.{Bool, cond, false, true}
use mathlib.Core.List.{List, [], ◌∷◌}
use mathlib.Core.Logic.{◌≢◌}
use mathlib.Core.Path.{◌∙◌, ◌≡◌, ap, ap₂, refl, sym}
use Prim.Native.Nat.{◌*◌, ◌+◌, ◌<◌, ◌≤◌, suc, zero, ℕ}
use native.Mathlib.Omega.{arith}
use lib.Dec.{eqb, ltb}
use lib.ListN.{get_or, length, set}
use lib.Seq.{get_or-set_same}
use borrow.Author.Rules.{read_below}
use borrow.Author.Tests.{eq-eqb, le-ltb, ltb-false, ltb-true, ne_eqb}
use Rattle.lists.specs.Lists.{All}
use Rattle.lists.specs.Truth.{Same, one_if, other, same, same?}
use Rattle.strict.proofs.Laws.Members.{above_ascending}
use Rattle.strict.specs.Tiles.{Above, Ascending}
use Rattle.grid.proofs.Laws.Keys.{parts}
use Rattle.grid.specs.Levels.{levels_from, tiles_at}
use Rattle.grid.specs.Limits.{zoom_factor}
use Rattle.grid.specs.Tile.{is_key, zoom_in}
use Rattle.search.specs.Table.{position_of}

-- nothing that ascends from x on stands below what x is not below
none_before : (n x : ℕ) (xs : List ℕ) → n ≤ x → Above x xs → position_of n xs ≡ 0
none_before n x [] l a = refl
none_before n x (y ∷ ys) l a = let h = a.0 in rw (le-ltb y n (omega arith))

pub between : (zoom : ℕ) (t : List ℕ) → Ascending t → tiles_at zoom t + position_of (zoom * zoom_factor) t ≡ position_of ((zoom + 1) * zoom_factor) t
between zoom [] asc = refl
between zoom (x ∷ xs) asc = go (ltb x (zoom * zoom_factor)) refl (ltb x ((zoom + 1) * zoom_factor)) refl (between zoom xs (above_ascending x xs asc))
  where
    go : (a : Bool) → ltb x (zoom * zoom_factor) ≡ a → (b : Bool) → ltb x ((zoom + 1) * zoom_factor) ≡ b
        → tiles_at zoom xs + position_of (zoom * zoom_factor) xs ≡ position_of ((zoom + 1) * zoom_factor) xs
        → one_if (eqb (zoom_in x) zoom) + tiles_at zoom xs + cond a (suc (position_of (zoom * zoom_factor) xs)) 0 ≡ cond b (suc (position_of ((zoom + 1) * zoom_factor) xs)) 0
    go true p true q ih = let l = ltb-true x (zoom * zoom_factor) p in rw (ne_eqb (zoom_in x) zoom (λ e. absurd (omega arith))) (omega arith)
    go true p false q ih = let l = ltb-true x (zoom * zoom_factor) p in let m = ltb-false x ((zoom + 1) * zoom_factor) q in absurd (omega arith)
    go false p true q ih =
        let l = ltb-false x (zoom * zoom_factor) p in
        let m = ltb-true x ((zoom + 1) * zoom_factor) q in
        let n = none_before (zoom * zoom_factor) x xs l asc in
        let e : zoom_in x ≡ zoom = omega arith in
        rw (eq-eqb (zoom_in x) zoom e) (omega arith)
    go false p false q ih =
        let l = ltb-false x ((zoom + 1) * zoom_factor) q in
        let n = none_before ((zoom + 1) * zoom_factor) x xs l asc in
        rw (ne_eqb (zoom_in x) zoom (λ e. absurd (omega arith))) (omega arith)

pub none_lower : (t : List ℕ) → All (λ k. is_key k ≡ true) t → position_of (4 * zoom_factor) t ≡ 0
none_lower [] h = refl
none_lower (k ∷ ks) h = let l = (parts k h.0).low in rw (le-ltb k (4 * zoom_factor) (omega arith))

pub in_places : (first n : ℕ) (t l : List ℕ) → length l ≡ n → ((j : ℕ) → j < n → get_or l j 0 ≡ tiles_at (first + j) t) → l ≡ levels_from first n t
in_places first zero t [] e f = refl
in_places first zero t (x ∷ xs) e f = absurd (omega arith)
in_places first (suc n) t [] e f = absurd (omega arith)
in_places first (suc n) t (x ∷ xs) e f =
    let z : first + 0 ≡ first = omega arith in
    ap₂ {C = List ℕ} (λ y ys. y ∷ ys) (f 0 (omega arith) ∙ ap (λ m. tiles_at m t) z)
    (in_places (suc first) n t xs (omega arith) (λ j l. let s : first + suc j ≡ suc first + j = omega arith in f (suc j) (omega arith) ∙ ap (λ m. tiles_at m t) s))

-- one count more in its place
pub counts_written : (t l : List ℕ) (i x : ℕ) → i < length l → x ≡ tiles_at (4 + i) t → ((j : ℕ) → j < i → get_or l j 0 ≡ tiles_at (4 + j) t)
    → (j : ℕ) → j < i + 1 → get_or (set l i x) j 0 ≡ tiles_at (4 + j) t
counts_written t l i x inside e f j h = go (same? j i)
  where
    go : Same j i → get_or (set l i x) j 0 ≡ tiles_at (4 + j) t
    go (same p q) = ap (λ n. get_or (set l i x) n 0) p ∙ get_or-set_same l i x 0 inside ∙ e ∙ ap (λ n. tiles_at (4 + n) t) (sym p)
    go (other p q) = let d : j ≢ i = p in read_below ℕ l i j x 0 _ (omega arith) (f j (omega arith))
