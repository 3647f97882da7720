-- What the theorems speak of: calls one after another, and calls with rectangles among them
use Rattle.std.specs.Prelude.{Bool, ◌&&◌, ◌||◌, false, true, List, [], ◌++◌, ◌∷◌, map, ◌≢◌, ◌⊎◌, ◌≡◌, ◌*◌, ◌+◌, ◌-◌, ◌<◌, ◌^◌, ℕ, eqb, ltb, ℤ, length, ◌<ℤ◌, ◌≤ℤ◌}
use Rattle.std.proofs.Math.Option.{none, some}
use Rattle.lists.specs.Lists.{All}
use Rattle.strict.specs.Book.{Book, held_by, needs_place, places_taken, step}
use Rattle.strict.specs.Commutativity.{FirstHolder, Signature}
use Rattle.strict.specs.Histories.{operation}
use Rattle.strict.specs.Operations.{begun}
use Rattle.strict.specs.Strict.{Log, ◌▷◌, empty}
use Rattle.strict.specs.declared.Procedure.{Procedure}
use Rattle.strict.specs.declared.Rule.{Rule}
use Rattle.grid.specs.Tile.{is_edition, key_at}
use Rattle.grid.specs.declared.Address.{Address}
use Rattle.service.specs.Calls.{start_call}
use Rattle.service.specs.History.{Call, call, operating}
use Rattle.service.specs.Journal.{encode, record_of}
use Rattle.service.specs.Limits.{operation_size, short_size}
use Rattle.service.specs.World.{Reported, World}
use Rattle.rectangles.specs.Rectangles.{bottom_row, height, key_for, listed, misshapen, most_in_rectangle, out_of_range, procedure_for, rectangle_call, top_row, width}
use Rattle.rectangles.specs.declared.Change.{Change}
use Rattle.rectangles.specs.declared.Rectangle.{Rectangle}

-- called one after another, all are done
abbrev pub AllDone : World → List Call → Type 0
AllDone w [] = Unit {0}
AllDone w (c ∷ cs) = ((call w c).told.number ≡ 0) × AllDone (call w c).after cs

-- and what they leave
abbrev pub left_by : World → List Call → World
left_by w [] = w
left_by w (c ∷ cs) = left_by (call w c).after cs

-- neither 14 nor 5 nor 13 refuses the rectangle
pub record Shaped (r : Rectangle) : Type 0 where
  pub of_edition : is_edition r.edition ≡ true
  pub in_range : out_of_range r ≡ false
  pub well_formed : misshapen r ≡ false

-- k is the key of a tile from west to east and from top to bottom, in rows counted from the north
pub record Inside (r : Rectangle) (k : ℕ) : Type 0 where
  pub column : ℤ
  pub row : ℤ
  pub from_west : r.west ≤ℤ column
  pub to_east : column ≤ℤ r.east
  pub from_top : top_row r ≤ℤ row
  pub to_bottom : row ≤ℤ bottom_row r
  pub has_key : key_at r.zoom column row ≡ some k

-- the tile a stands west of b, or in its column and above it
abbrev pub Before : Address → Address → Type 0
Before a b = (a.column <ℤ b.column) ⊎ ((a.column ≡ b.column) × (a.row <ℤ b.row))

-- no two are the same
abbrev pub Apart : List ℕ → Type 0
Apart [] = Unit {0}
Apart (k ∷ ks) = All (λ i. k ≢ i) ks × Apart ks

-- the operation calls on a list of tiles, and those of a rectangle
abbrev pub operations : ℕ → ℕ → Procedure → List Address → List Call
operations job sheet p xs = map (λ a. operating job sheet p a) xs

abbrev pub calls_of : ℕ → ℕ → Change → Rectangle → List Call
calls_of job sheet change r = operations job sheet (procedure_for change) (listed r)

-- the bytes of one record for each tile
abbrev pub records_of : ℕ → ℕ → Procedure → List Address → List ℕ
records_of job sheet p [] = []
records_of job sheet p (a ∷ xs) = encode (record_of (operation job sheet p (key_for a)) true) ++ records_of job sheet p xs

-- THE ROOM OF EACH KIND, JUDGED ALONE: it runs out where the list is taken tile after tile
abbrev pub places_run_out : Rule → ℕ → Book → ℕ → ℕ → Procedure → List ℕ → Bool
places_run_out rule places m job sheet p [] = false
places_run_out rule places m job sheet p (k ∷ ks) =
    (needs_place rule m.table (begun job p k m.tiles) && eqb (places_taken rule m) places) || places_run_out rule places (step m (operation job sheet p k)) job sheet p ks

abbrev pub slots_run_out : ℕ → Book → ℕ → ℕ → Procedure → List ℕ → Bool
slots_run_out slots m job sheet p [] = false
slots_run_out slots m job sheet p (k ∷ ks) = eqb (length m.table) slots || slots_run_out slots (step m (operation job sheet p k)) job sheet p ks

abbrev pub bytes_run_out : ℕ → ℕ → List ℕ → Bool
bytes_run_out free open_jobs_lem [] = false
bytes_run_out free open_jobs_lem (k ∷ ks) = ltb free (operation_size + short_size * open_jobs_lem) || bytes_run_out (free - operation_size) open_jobs_lem ks

-- of the tiles ks, in order, the first that is held, and the first entry that holds it
pub record FirstHeld (rule : Rule) (m : Book) (job : ℕ) (p : Procedure) (ks : List ℕ) (holder : Signature) : Type 0 where
  pub earlier : List ℕ
  pub tile : ℕ
  pub later : List ℕ
  pub placed_so : ks ≡ earlier ++ (tile ∷ later)
  pub none_earlier : All (λ k. held_by rule m job p k ≡ none) earlier
  pub held_there : FirstHolder rule (begun job p tile m.tiles) m.table holder

-- the numbers that refuse a rectangle, in the order in which they are judged
abbrev pub refusing_rectangle : List ℕ
refusing_rectangle = 1 ∷ 2 ∷ 3 ∷ 14 ∷ 5 ∷ 13 ∷ 6 ∷ 7 ∷ 8 ∷ 9 ∷ []

-- 13 in words
abbrev pub Misshapen : Rectangle → Type 0
Misshapen r = (r.east <ℤ r.west) ⊎ ((bottom_row r <ℤ top_row r) ⊎ ((2 ^ r.zoom < width r) ⊎ (most_in_rectangle < width r * height r)))

-- CALLS FROM A START BY A RULE, WITH RECTANGLES AMONG THEM
pub data Move : Type 0 where
  plain : Call → Move
  rectangle : ℕ → ℕ → Change → Rectangle → Move

abbrev pub moved : World → Move → Reported
moved w (plain c) = call w c
moved w (rectangle job sheet change r) = rectangle_call w job sheet change r

pub data FromMoves (by : Rule) (tiles : List ℕ) (count : ℕ) (operations journal : List ℕ) : Log Move → World → Type 0 where
  starting : (start_call by tiles count operations journal).told.number ≡ 0
      → FromMoves by tiles count operations journal empty (start_call by tiles count operations journal).after
  went : {ms : Log Move} {w : World} → FromMoves by tiles count operations journal ms w → (m : Move) → (moved w m).told.number ≡ 0
      → FromMoves by tiles count operations journal (ms ▷ m) (moved w m).after

-- each rectangle written out as its operations
abbrev pub followed : Log Call → List Call → Log Call
followed cs [] = cs
followed cs (d ∷ ds) = followed (cs ▷ d) ds

abbrev pub written : Log Move → Log Call
written empty = empty
written (ms ▷ plain c) = written ms ▷ c
written (ms ▷ rectangle job sheet change r) = followed (written ms) (calls_of job sheet change r)
