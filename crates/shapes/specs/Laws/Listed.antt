-- The keys of a rectangle by steps, and the pass that lists them
use Rattle.std.specs.Prelude.{Ok, true, List, [], ◌++◌, ◌∷◌, ◌≡◌, refl, ◌%◌, ◌+◌, ◌-◌, ◌/◌, ◌<◌, ◌^◌, ◌≤◌, suc, zero, ℕ, eqb, ltb, pos, length, set, take}
use Rattle.std.proofs.Math.Option.{some}
use Rattle.std.proofs.Common.{◌∙◌, ap, ap₂, subst, sym, div-le_self, mod-lt, add-one, arith, pow_pos, take-suc-set, ltb-false}
use Rattle.lists.specs.Lists.{All}
use Rattle.lists.specs.Truth.{or_left, or_right}
use Rattle.grid.proofs.Laws.Keys.{around_lt, column_back, keyed_at, row_back, size_le}
use Rattle.grid.specs.Tile.{around, column_in, is_key, key_at, pack_key, row_in}
use Rattle.rectangles.specs.Claims.{Shaped}
use Rattle.rectangles.proofs.Laws.Listing.{all_sequence, map_sequence}
use Rattle.rectangles.proofs.Laws.Tiles.{Extent, extent, key_stepped, placed_row, tile_valid}
use Rattle.rectangles.specs.Rectangles.{area, first_corner, height, key_for, keys, last_corner, listed, sequence, span, tile_at, top_row, unplaced, width}
use Rattle.rectangles.specs.declared.Rectangle.{Rectangle}
use Rattle.shapes.specs.Shaping.{Shapes, Steps, stepped}
use Rattle.shapes.specs.declared.Shape.{Shape}

-- what the sums of a key need
pub record Bounds (columns first north height i : ℕ) : Type 0 where
  pub across : i / height ≤ i
  pub column : (first + i / height) % columns < columns
  pub down : i % height < height

pub bounds : (zoom columns first north height i : ℕ) → Steps zoom columns first north height → Bounds columns first north height i
bounds zoom columns first north height i s =
    record { across = div-le_self i height; column = mod-lt (first + i / height) s.some_columns; down = mod-lt i s.tall }

module _ {A : Type 0} (f : ℕ → A) where
  sequence_last : (i n : ℕ) → sequence f i (suc n) ≡ sequence f i n ++ (f (i + n) ∷ [])
  sequence_last i zero = ap {B = List A} (λ j. f j ∷ []) (omega arith)
  sequence_last i (suc n) = ap {B = List A} (λ l. f i ∷ l) (sequence_last (suc i) n ∙ ap (λ j. sequence f (suc i) n ++ (f j ∷ [])) (omega arith))

-- one more key is stored
pub stored_more : (f : ℕ → ℕ) (keys : List ℕ) (i v : ℕ) → i < length keys → take i keys ≡ sequence f 0 i → v ≡ f i → take (i + 1) (set keys i v) ≡ sequence f 0 (i + 1)
stored_more f keys i v l e is =
    rw add-one (take-suc-set keys i v l ∙ ap₂ (λ x y. x ++ (y ∷ [])) e (is ∙ ap f (omega arith)) ∙ sym (sequence_last f 0 i))

-- THE LIST OF A RECTANGLE
sequence_same : {A : Type 0} (f g : ℕ → A) → ((i : ℕ) → f i ≡ g i) → (i n : ℕ) → sequence f i n ≡ sequence g i n
sequence_same f g e i zero = refl
sequence_same {A} f g e i (suc n) = ap₂ {C = List A} (λ x xs. x ∷ xs) (e i) (sequence_same f g e (suc i) n)

module _ (r : Rectangle) (s : Shaped r) where
  abbrev corner : ℕ
  corner = key_for (first_corner r)

  abbrev x : Extent r
  x = extent r s

  corner_keyed : key_at r.zoom r.west (top_row r) ≡ some corner
  corner_keyed =
      placed_row (first_corner r)
      (or_left (unplaced (first_corner r)) (unplaced (last_corner r)) s.in_range)

  column_is : column_in corner ≡ around r.west (2 ^ r.zoom)
  column_is = column_back r.zoom r.west (top_row r) corner (keyed_at r.zoom r.west (top_row r) corner corner_keyed)

  row_is : row_in corner ≡ x.north
  row_is =
      let a : pos (row_in corner) ≡ pos x.north = row_back r.zoom r.west (top_row r) corner (keyed_at r.zoom r.west (top_row r) corner corner_keyed) ∙ x.north_is in
      cc

  steps_of : Steps r.zoom (2 ^ r.zoom) (column_in corner) (row_in corner) (height r)
  steps_of =
      let h : height r ≡ suc x.south - x.north = ap₂ span x.north_is x.south_is in
      let n = row_is in
      let t = x.tall in
      let f = x.south_fits in
      record {
        low_zoom = x.high;
        some_columns = pow_pos r.zoom;
        few_columns = size_le r.zoom x.high;
        first_inside = let a = around_lt r.west (2 ^ r.zoom) (pow_pos r.zoom) in let b = column_is in omega arith;
        tall = x.tall;
        rows_inside = omega arith;
      }

  list_of : sequence (stepped r.zoom (2 ^ r.zoom) (column_in corner) (row_in corner) (height r)) 0 (area r) ≡ keys (listed r)
  list_of =
      sym
      (map_sequence (tile_at r) key_for 0 (area r)
      ∙ sequence_same (λ i. key_for (tile_at r i)) (stepped r.zoom (2 ^ r.zoom) (column_in corner) (row_in corner) (height r))
      (λ i. key_stepped r s i ∙ sym (λ j. pack_key r.zoom ((column_is j + i / height r) % (2 ^ r.zoom)) (row_is j + i % height r))) 0 (area r))

  pub all_valid : All (λ k. is_key k ≡ true) (keys (listed r))
  all_valid =
      subst (All (λ k. is_key k ≡ true)) (sym (map_sequence (tile_at r) key_for 0 (area r)))
      (all_sequence (λ i. key_for (tile_at r i)) (λ k. is_key k ≡ true) 0 (area r) (λ i l u. tile_valid r s i))

  pub few_tiles : area r ≤ 256
  few_tiles =
      ltb-false 256 (area r)
      (or_right (ltb (2 ^ r.zoom) (width r)) (ltb 256 (area r)) (or_right (eqb (height r) 0) _ (or_right (eqb (width r) 0) _ s.well_formed)))

-- as the shape has it: the corner, the height and how many
module _ (r : Rectangle) (s : Shape) (f : Shapes r (Ok s)) where
  pub shape_steps : Steps r.zoom (2 ^ r.zoom) (column_in s.corner) (row_in s.corner) s.height
  shape_steps =
      subst (λ y. Steps r.zoom (2 ^ r.zoom) (column_in s.corner) (row_in s.corner) y) (sym f.2)
      (subst (λ y. Steps r.zoom (2 ^ r.zoom) (column_in y) (row_in y) (height r)) (sym f.1) (steps_of r f.0))

  pub shape_few : s.n ≤ 256
  shape_few = let e = f.3 in let l = few_tiles r f.0 in omega arith

  pub shape_list : sequence (stepped r.zoom (2 ^ r.zoom) (column_in s.corner) (row_in s.corner) s.height) 0 s.n ≡ keys (listed r)
  shape_list =
      (λ i. sequence (stepped r.zoom (2 ^ r.zoom) (column_in (f.1 i)) (row_in (f.1 i)) (f.2 i)) 0 (f.3 i)) ∙ list_of r f.0
