-- The shape of a rectangle, as the code finds it, and its keys by steps
use Rattle.std.specs.Prelude.{Bool, ◌||◌, Result, Ok, Err, false, true, ◌≡◌, ◌%◌, ◌*◌, ◌+◌, ◌/◌, ◌<◌, ◌^◌, ◌≤◌, ℕ, eqb, ltb}
use Rattle.grid.specs.Tile.{pack_key}
use Rattle.rectangles.specs.Claims.{Shaped}
use Rattle.rectangles.specs.Rectangles.{area, first_corner, height, key_for, misnamed, misshapen, most_in_rectangle, out_of_range, unplaced}
use Rattle.rectangles.specs.declared.Rectangle.{Rectangle}
use Rattle.grid.specs.Tile.{is_edition}
use Rattle.grid.specs.declared.Address.{Address}
use Rattle.grid.specs.declared.Unplaced.TheVariants.{NoEdition, OutOfRange}
use Rattle.grid.specs.declared.Unplaced.{Unplaced}
use Rattle.service.specs.Told as service
use Rattle.service.specs.declared.Reason.TheVariants as reason
use Rattle.service.specs.declared.Reason.{Reason}
use Rattle.shapes.specs.declared.Flaw.TheVariants.{Corner, Misshapen}
use Rattle.shapes.specs.declared.Flaw.{Flaw}
use Rattle.shapes.specs.declared.Shape.{Shape}

-- 13, of a width and a height
abbrev pub misfit : ℕ → ℕ → ℕ → Bool
misfit zoom w h = eqb w 0 || (eqb h 0 || (ltb (2 ^ zoom) w || ltb most_in_rectangle (w * h)))

-- what a call replies to a flaw
abbrev pub reason_of : Flaw → Reason
reason_of (Corner why) = service.reason_of why
reason_of Misshapen = reason.Misshapen

-- what is found of an address: 14, 5, or its key
abbrev pub Corners : Address → Result ℕ Unplaced → Type 0
Corners a (Err NoEdition) = is_edition a.edition ≡ false
Corners a (Err OutOfRange) = (is_edition a.edition ≡ true) × (unplaced a ≡ true)
Corners a (Ok k) = (is_edition a.edition ≡ true) × (unplaced a ≡ false) × (k ≡ key_for a)

-- what is found of a width and a height
abbrev pub Measures : ℕ → ℕ → ℕ → ℕ → Result Shape Flaw → Type 0
Measures zoom corner w h (Err (Corner why)) = ⊥
Measures zoom corner w h (Err Misshapen) = misfit zoom w h ≡ true
Measures zoom corner w h (Ok s) = (misfit zoom w h ≡ false) × (s.corner ≡ corner) × (s.height ≡ h) × (s.n ≡ w * h)

-- what is found of a rectangle: 14, 5, 13, or the key of its first tile, its height and how many tiles it has
abbrev pub Shapes : Rectangle → Result Shape Flaw → Type 0
Shapes r (Err (Corner NoEdition)) = misnamed r ≡ true
Shapes r (Err (Corner OutOfRange)) = (misnamed r ≡ false) × (out_of_range r ≡ true)
Shapes r (Err Misshapen) = (misnamed r ≡ false) × (out_of_range r ≡ false) × (misshapen r ≡ true)
Shapes r (Ok s) = Shaped r × (s.corner ≡ key_for (first_corner r)) × (s.height ≡ height r) × (s.n ≡ area r)

-- tile i of a rectangle of that height, whose first column is `first` and whose top row is `north`
abbrev pub stepped : ℕ → ℕ → ℕ → ℕ → ℕ → ℕ → ℕ
stepped zoom columns first north height i = pack_key zoom ((first + i / height) % columns) (north + i % height)

-- where the sums of that fit
pub record Steps (zoom columns first north height : ℕ) : Type 0 where
  pub low_zoom : zoom ≤ 14
  pub some_columns : 0 < columns
  pub few_columns : columns ≤ 16384
  pub first_inside : first < columns
  pub tall : 0 < height
  pub rows_inside : north + height ≤ columns
