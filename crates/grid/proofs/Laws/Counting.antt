-- The counts of the levels, as a tile moves them
use Rattle.std.specs.Prelude.{Bool, ◌&&◌, cond, false, true, List, [], ◌∷◌, ◌≢◌, ◌≡◌, refl, ◌+◌, ◌-◌, ◌<◌, ◌≤◌, suc, zero, ℕ, eqb, leb, ltb, get_or, length}
use Rattle.std.proofs.Math.Bool.{and-false}
use Rattle.std.proofs.Common.{◌∙◌, ap₂, sym, arith, eqb-true, le-leb, leb-true, ltb-true, ne_eqb}
use Rattle.std.proofs.Math.Path.{ap}
use Rattle.std.proofs.Math.ListN.{set}
use Rattle.lists.specs.Lists.{All}
use Rattle.lists.specs.Truth.{Same, and_both, both, by_cond, eqb_same, never, one_if, other, same, same?}
use Rattle.strict.proofs.Laws.Members.{above_ascending, member_ge, not_own}
use Rattle.strict.specs.Tiles.{Ascending, delete, insert_tile, member}
use Rattle.grid.proofs.Laws.Keys.{parts}
use Rattle.grid.specs.Levels.{is_zoom, level_place, levels_from, levels_of, tiles_at, total}
use Rattle.grid.specs.Limits.{highest_zoom, level_count, lowest_zoom}
use Rattle.grid.specs.Tile.{is_key, zoom_in}

-- ONE ZOOM
pub tiles_put : (zoom k : ℕ) (t : List ℕ) → Ascending t
    → tiles_at zoom (insert_tile k t) + one_if (member k t && eqb (zoom_in k) zoom) ≡ tiles_at zoom t + one_if (eqb (zoom_in k) zoom)
tiles_put zoom k [] asc = omega arith
tiles_put zoom k (x ∷ xs) asc =
    let ih = tiles_put zoom k xs (above_ascending x xs asc) in
    by_cond P (ltb k x) below (λ _. by_cond P (eqb k x) (λ e. rw e) (λ e. rw e (omega arith)))
  where
    P : List ℕ → Type 0
    P l = tiles_at zoom l + one_if (member k (x ∷ xs) && eqb (zoom_in k) zoom) ≡ tiles_at zoom (x ∷ xs) + one_if (eqb (zoom_in k) zoom)

    below : ltb k x ≡ true → P (k ∷ x ∷ xs)
    below e = go (member k (x ∷ xs)) refl
      where
        go : (b : Bool) → member k (x ∷ xs) ≡ b
            → tiles_at zoom (k ∷ x ∷ xs) + one_if (b && eqb (zoom_in k) zoom) ≡ tiles_at zoom (x ∷ xs) + one_if (eqb (zoom_in k) zoom)
        go true m = let h₁ = member_ge k x xs asc m in let h₂ = ltb-true k x e in absurd (omega arith)
        go false m = omega arith

pub tiles_cleared : (zoom k : ℕ) (t : List ℕ) → Ascending t → tiles_at zoom (delete k t) + one_if (member k t && eqb (zoom_in k) zoom) ≡ tiles_at zoom t
tiles_cleared zoom k [] asc = refl
tiles_cleared zoom k (x ∷ xs) asc =
    let ih = tiles_cleared zoom k xs (above_ascending x xs asc) in
    by_cond P (eqb k x) (λ e. rw e (own (eqb-true k x e) ih)) (λ e. rw e (omega arith))
  where
    P : List ℕ → Type 0
    P l = tiles_at zoom l + one_if (member k (x ∷ xs) && eqb (zoom_in k) zoom) ≡ tiles_at zoom (x ∷ xs)

    own : k ≡ x → tiles_at zoom (delete k xs) + one_if (member k xs && eqb (zoom_in k) zoom) ≡ tiles_at zoom xs
        → tiles_at zoom (delete k xs) + one_if (eqb (zoom_in k) zoom) ≡ one_if (eqb (zoom_in x) zoom) + tiles_at zoom xs
    own p ih =
        let h₁ = rw (ap (λ z. member z xs) p ∙ not_own x xs asc) at ih in
        let h₂ = ap (λ z. one_if (eqb (zoom_in z) zoom)) p in
        omega arith

-- ALL OF THEM
levels_kept : (first n : ℕ) (t u : List ℕ) → ((z : ℕ) → first ≤ z → tiles_at z u ≡ tiles_at z t) → levels_from first n u ≡ levels_from first n t
levels_kept first zero t u alike = refl
levels_kept first (suc n) t u alike = ap₂ {C = List ℕ} (λ x xs. x ∷ xs) (alike first (omega arith)) (levels_kept (suc first) n t u (λ z l. alike z (omega arith)))

levels_moved : (first n i : ℕ) (t u : List ℕ) → i < n → ((z : ℕ) → z ≢ first + i → tiles_at z u ≡ tiles_at z t)
    → levels_from first n u ≡ set (levels_from first n t) i (tiles_at (first + i) u)
levels_moved first zero i t u l alike = absurd (omega arith)
levels_moved first (suc n) zero t u l alike =
    let e : first ≡ first + 0 = omega arith in
    ap₂ {C = List ℕ} (λ x xs. x ∷ xs) (ap (λ z. tiles_at z u) e) (levels_kept (suc first) n t u (λ z h. alike z (λ p. absurd (omega arith))))
levels_moved first (suc n) (suc i) t u l alike =
    let e : suc first + i ≡ first + suc i = omega arith in
    ap₂ {C = List ℕ} (λ x xs. x ∷ xs) (alike first (λ p. absurd (omega arith)))
    (levels_moved (suc first) n i t u (omega arith) (λ z d. alike z (λ p. d (p ∙ sym e))) ∙ ap (λ z. set (levels_from (suc first) n t) i (tiles_at z u)) e)

level_at_lem : (first n i : ℕ) (t : List ℕ) → i < n → get_or (levels_from first n t) i 0 ≡ tiles_at (first + i) t
level_at_lem first zero i t l = absurd (omega arith)
level_at_lem first (suc n) zero t l = let e : first ≡ first + 0 = omega arith in ap (λ z. tiles_at z t) e
level_at_lem first (suc n) (suc i) t l = let e : suc first + i ≡ first + suc i = omega arith in level_at_lem (suc first) n i t (omega arith) ∙ ap (λ z. tiles_at z t) e

levels_length : (first n : ℕ) (t : List ℕ) → length (levels_from first n t) ≡ n
levels_length first zero t = refl
levels_length first (suc n) t = ap suc (levels_length (suc first) n t)

pub eleven_levels : (t : List ℕ) → length (levels_of t) ≡ level_count
unfolding levels_of
eleven_levels t = levels_length lowest_zoom level_count t

-- a zoom that no valid key has
pub no_tiles : (zoom : ℕ) (t : List ℕ) → All (λ k. is_key k ≡ true) t → is_zoom zoom ≡ false → tiles_at zoom t ≡ 0
no_tiles zoom [] h out = refl
no_tiles zoom (k ∷ ks) h out =
    let z = parts k h.0 in
    rw (ne_eqb (zoom_in k) zoom (λ p. never (sym (rw p at (and_both (le-leb lowest_zoom (zoom_in k) z.low) (le-leb (zoom_in k) highest_zoom z.high))) ∙ out)), no_tiles zoom ks h.1 out)

pub count_fresh : (zoom : ℕ) (t : List ℕ) → All (λ k. is_key k ≡ true) t → cond (is_zoom zoom) (get_or (levels_of t) (zoom - lowest_zoom) 0) 0 ≡ tiles_at zoom t
unfolding levels_of
count_fresh zoom t h =
    by_cond (λ n. n ≡ tiles_at zoom t) (is_zoom zoom)
    (λ e.
    let p = both (leb lowest_zoom zoom) (leb zoom highest_zoom) e in
    let a = leb-true lowest_zoom zoom p.0 in
    let b = leb-true zoom highest_zoom p.1 in
    let z : lowest_zoom + (zoom - lowest_zoom) ≡ zoom = omega arith in
    level_at_lem lowest_zoom level_count (zoom - lowest_zoom) t (omega arith) ∙ ap (λ n. tiles_at n t) z)
    (λ e. sym (no_tiles zoom t h e))

-- THEIR SUM
total_below : (first n k : ℕ) (t : List ℕ) → zoom_in k < first → total (levels_from first n (k ∷ t)) ≡ total (levels_from first n t)
total_below first zero k t l = refl
total_below first (suc n) k t l =
    let ih = total_below (suc first) n k t (omega arith) in
    rw (ne_eqb (zoom_in k) first (λ p. absurd (omega arith))) (omega arith)

total_one : (first n k : ℕ) (t : List ℕ) → first ≤ zoom_in k → zoom_in k < first + n → total (levels_from first n (k ∷ t)) ≡ suc (total (levels_from first n t))
total_one first zero k t l h = absurd (omega arith)
total_one first (suc n) k t l h = go (same? (zoom_in k) first) (total_one (suc first) n k t)
  where
    go : Same (zoom_in k) first → (suc first ≤ zoom_in k → zoom_in k < suc first + n → total (levels_from (suc first) n (k ∷ t)) ≡ suc (total (levels_from (suc first) n t)))
        → one_if (eqb (zoom_in k) first) + tiles_at first t + total (levels_from (suc first) n (k ∷ t)) ≡ suc (tiles_at first t + total (levels_from (suc first) n t))
    go (same p q) ih = let r = total_below (suc first) n k t (omega arith) in rw q (omega arith)
    go (other p q) ih = let d : zoom_in k ≢ first = p in let r = ih (omega arith) (omega arith) in rw q (omega arith)

total_none : (first n : ℕ) → total (levels_from first n []) ≡ 0
total_none first zero = refl
total_none first (suc n) = let ih = total_none (suc first) n in omega arith

pub levels_total : (t : List ℕ) → All (λ k. is_key k ≡ true) t → total (levels_of t) ≡ length t
unfolding levels_of
levels_total [] h = total_none lowest_zoom level_count
levels_total (k ∷ ks) h =
    let z = parts k h.0 in
    let a = z.low in
    let b = z.high in
    total_one lowest_zoom level_count k ks (omega arith) (omega arith) ∙ ap suc (levels_total ks h.1)

-- A TILE COMES OR GOES: the count of its level, at its place, moves by one
module _ (k : ℕ) (valid : is_key k ≡ true) (t : List ℕ) where
  pub place_small : level_place k < level_count
  place_small = let a = (parts k valid).low in let b = (parts k valid).high in omega arith

  at_place : lowest_zoom + level_place k ≡ zoom_in k
  at_place = let a = (parts k valid).low in omega arith

  count_there : get_or (levels_of t) (level_place k) 0 ≡ tiles_at (zoom_in k) t
  unfolding levels_of
  count_there = level_at_lem lowest_zoom level_count (level_place k) t place_small ∙ ap (λ z. tiles_at z t) at_place

  other_level : (z : ℕ) → z ≢ lowest_zoom + level_place k → eqb (zoom_in k) z ≡ false
  other_level z d = ne_eqb (zoom_in k) z (λ p. d (sym (at_place ∙ p)))

  moved : (u : List ℕ) → ((z : ℕ) → eqb (zoom_in k) z ≡ false → tiles_at z u ≡ tiles_at z t)
      → levels_of u ≡ set (levels_of t) (level_place k) (tiles_at (zoom_in k) u)
  unfolding levels_of
  moved u f =
      levels_moved lowest_zoom level_count (level_place k) t u place_small (λ z d. f z (other_level z d))
      ∙ ap (λ z. set (levels_from lowest_zoom level_count t) (level_place k) (tiles_at z u)) at_place

  module _ (asc : Ascending t) where
    pub level_put : member k t ≡ false → levels_of (insert_tile k t) ≡ set (levels_of t) (level_place k) (get_or (levels_of t) (level_place k) 0 + 1)
    level_put m =
        moved (insert_tile k t) (λ z e. let h = rw (e, and-false (member k t)) at (tiles_put z k t asc) in omega arith)
        ∙ ap (set (levels_of t) (level_place k)) (let h = rw (m, eqb_same (zoom_in k)) at (tiles_put (zoom_in k) k t asc) in let c = count_there in omega arith)

    pub level_cleared : member k t ≡ true → levels_of (delete k t) ≡ set (levels_of t) (level_place k) (get_or (levels_of t) (level_place k) 0 - 1)
    level_cleared m =
        moved (delete k t) (λ z e. let h = rw (e, and-false (member k t)) at (tiles_cleared z k t asc) in omega arith)
        ∙ ap (set (levels_of t) (level_place k)) (let h = rw (m, eqb_same (zoom_in k)) at (tiles_cleared (zoom_in k) k t asc) in let c = count_there in omega arith)

    pub level_some : member k t ≡ true → 0 < get_or (levels_of t) (level_place k) 0
    level_some m = let h = rw (m, eqb_same (zoom_in k)) at (tiles_cleared (zoom_in k) k t asc) in let c = count_there in omega arith

  pub level_few : get_or (levels_of t) (level_place k) 0 ≤ length t
  level_few = let c = count_there in let f = few (zoom_in k) t in omega arith
    where
      few : (z : ℕ) (l : List ℕ) → tiles_at z l ≤ length l
      few z [] = omega arith
      few z (x ∷ xs) = let ih = few z xs in by (eqb (zoom_in x) z) ih
        where
          by : (b : Bool) → tiles_at z xs ≤ length xs → one_if b + tiles_at z xs ≤ suc (length xs)
          by true h = omega arith
          by false h = omega arith
