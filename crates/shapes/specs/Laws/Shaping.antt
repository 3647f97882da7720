-- What each test of the shape decides
use Rattle.std.specs.Prelude.{Result, Ok, Err, false, not, true, ◌≡◌, ◌-◌, ◌≤◌, suc, ℕ, pos, ◌*◌, ◌<◌, ◌^◌, eqb, ltb, ℤ}
use Rattle.std.proofs.Common.{◌∙◌, ap, ap₂, sym, mul-le-mul_right, arith, eq-eqb, le-ltb, lt-ltb, ne_eqb}
use Rattle.lists.specs.Truth.{both_false}
use Rattle.grid.proofs.Laws.Keys.{keyed_at, row_back, step_fourteen, step_named}
use Rattle.grid.specs.Tile.{is_edition, north_row, row_in, Placed, address_call, placed}
use Rattle.grid.specs.declared.Address.{Address}
use Rattle.rectangles.proofs.Laws.Tiles.{placed_row}
use Rattle.rectangles.specs.Rectangles.{first_corner, height, key_for, last_corner, span, unplaced, width}
use Rattle.rectangles.specs.declared.Rectangle.{Rectangle}
use Rattle.shapes.specs.Shaping.{Measures, Shapes, misfit}
use Rattle.shapes.specs.declared.Flaw.{Flaw}
use Rattle.shapes.specs.declared.Flaw.TheVariants.{Corner, Misshapen}
use Rattle.shapes.specs.declared.Shape.{Shape}
use Rattle.std.proofs.Math.Bool.{or-true}
use Rattle.grid.specs.declared.Keyed.{Keyed}
use Rattle.grid.specs.declared.Unplaced.{Unplaced}
use Rattle.grid.specs.declared.Unplaced.TheVariants.{NoEdition, OutOfRange}

pub zoom_small : (a : Address) → unplaced a ≡ false → a.zoom ≤ 14
zoom_small a e = (keyed_at a.zoom a.column (north_row a.edition a.zoom a.row) (key_for a) (placed_row a e)).high

-- THE SHAPE, where the address step gives the keys of both corners
module _ (r : Rectangle) where
  -- the row of a corner's key is counted from the north
  corner_row : (a : Address) → unplaced a ≡ false → north_row a.edition a.zoom a.row ≡ pos (row_in (key_for a))
  corner_row a e =
      let y = north_row a.edition a.zoom a.row in
      sym (row_back a.zoom a.column y (key_for a) (keyed_at a.zoom a.column y (key_for a) (placed_row a e)))

  pub rows_height : unplaced (first_corner r) ≡ false → unplaced (last_corner r) ≡ false → suc (row_in (key_for (last_corner r))) - row_in (key_for (first_corner r)) ≡ height r
  rows_height a b = sym (ap₂ span (corner_row (first_corner r) a) (corner_row (last_corner r) b))

  pub shapes_measured : (corner : ℕ) (v : Result Shape Flaw) → is_edition r.edition ≡ true → unplaced (first_corner r) ≡ false → unplaced (last_corner r) ≡ false
      → corner ≡ key_for (first_corner r) → Measures r.zoom corner (width r) (height r) v → Shapes r v
  shapes_measured corner (Err (Corner why)) known a b k m = absurd m
  shapes_measured corner (Err Misshapen) known a b k m = (ap not known, both_false a b, m)
  shapes_measured corner (Ok s) known a b k m = (record { of_edition = known; in_range = both_false a b; well_formed = m.0 }, m.1 ∙ k, m.2, m.3)

module _ (zoom w h : ℕ) where
  pub no_width : w ≡ 0 → misfit zoom w h ≡ true
  no_width e = rw (eq-eqb w 0 e)

  pub no_height : h ≡ 0 → misfit zoom w h ≡ true
  no_height e = rw (eq-eqb h 0 e) (or-true (eqb w 0))

  pub too_wide : 2 ^ zoom < w → misfit zoom w h ≡ true
  too_wide l = rw (lt-ltb (2 ^ zoom) w l, or-true (eqb h 0)) (or-true (eqb w 0))

  pub too_many : 256 < w * h → misfit zoom w h ≡ true
  too_many l = rw (lt-ltb 256 (w * h) l, or-true (ltb (2 ^ zoom) w), or-true (eqb h 0)) (or-true (eqb w 0))

  pub too_tall : (w ≡ 0 → ⊥) → 256 < h → misfit zoom w h ≡ true
  too_tall d l = let m : 1 * h ≤ w * h = mul-le-mul_right h (omega arith) in too_many (omega arith)

  pub well : (w ≡ 0 → ⊥) → (h ≡ 0 → ⊥) → w ≤ 2 ^ zoom → w * h ≤ 256 → misfit zoom w h ≡ false
  well a b c d = both_false (ne_eqb w 0 a) (both_false (ne_eqb h 0 b) (both_false (le-ltb (2 ^ zoom) w c) (le-ltb 256 (w * h) d)))

-- the address step, as it was told
module _ (a : Address) (v : Result Keyed Unplaced) (told : placed v ≡ address_call a) where
  numbered : (n : ℕ) → (placed v).number ≡ n → (address_call a).number ≡ n
  numbered n e = sym (ap (λ (x : Placed). x.number) told) ∙ e

  pub misnamed_so : v ≡ Err NoEdition → is_edition a.edition ≡ false
  misnamed_so is = (step_fourteen a).0 (eq-eqb _ 14 (numbered 14 (ap (λ l. (placed l).number) is)))

  pub refused_so : v ≡ Err OutOfRange → (is_edition a.edition ≡ true) × (unplaced a ≡ true)
  refused_so is =
      let five = numbered 5 (ap (λ l. (placed l).number) is) in
      (step_named a (ap (λ n. eqb n 14) five), ap (λ n. not (eqb n 0)) five)

  pub keyed_so : (k : ℕ) (turns : ℤ) → v ≡ Ok (record { key = k; turns = turns }) → (is_edition a.edition ≡ true) × (unplaced a ≡ false) × (k ≡ key_for a)
  keyed_so k turns is =
      let zero = numbered 0 (ap (λ l. (placed l).number) is) in
      (step_named a (ap (λ n. eqb n 14) zero), ap (λ n. not (eqb n 0)) zero, sym (ap (λ l. (placed l).key) is) ∙ ap (λ (x : Placed). x.key) told)
