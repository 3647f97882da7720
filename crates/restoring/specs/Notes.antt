-- Tiles that are to go, and tiles that are to come back, noted and not yet moved
use Rattle.std.specs.Prelude.{Bool, cond, false, true, List, [], ◌∷◌, ◌≡◌, ◌<◌, ◌≤◌, ℕ, length, replicate, set, take}
use Rattle.strict.specs.Operations.{put}
use Rattle.strict.specs.Tiles.{Ascending, member}
use Rattle.strict.specs.declared.Procedure.TheVariants.{Del, Ins, Mem}
use Rattle.strict.specs.declared.Procedure.{Procedure}
use Rattle.service.specs.Limits.{most_tiles}
use Rattle.search.specs.Table.{TileTable}
use Rattle.runs.specs.Runs.{apply_all}
use Rattle.levels.specs.Tally.{tally_of}
use Rattle.restoring.specs.declared.Notes.{Notes}

-- the tiles that have no mark
abbrev pub unmarked : List Bool → List ℕ → List ℕ
unmarked [] t = t
unmarked (m ∷ ms) [] = []
unmarked (m ∷ ms) (x ∷ xs) = cond m (unmarked ms xs) (x ∷ unmarked ms xs)

-- what a procedure on the tile at a place does to its mark
abbrev pub marked_by : Procedure → ℕ → List Bool → List Bool
marked_by Ins at ms = set ms at false
marked_by Del at ms = set ms at true
marked_by Mem at ms = ms

-- the tiles t without the marked ones, and with those that come back
abbrev pub restored : List Bool → List ℕ → List ℕ → List ℕ
restored ms back t = apply_all put back (unmarked ms t)

abbrev pub restored_by : List ℕ → List Bool → List ℕ → Notes → List ℕ
restored_by t ms back n = restored ms (take n.coming back) t

-- no mark yet, and none that comes back, with places enough for so many tiles and so many entries
pub record Blank (ms : List Bool) (back : List ℕ) (tiles used : ℕ) : Type 0 where
  pub no_marks : ms ≡ replicate (length ms) false
  pub none_coming : back ≡ replicate (length back) 0
  pub markable : tiles ≤ length ms
  pub room : used ≤ length back

-- by these notes the tiles t become l
pub record Foretold (t l : List ℕ) (ms : List Bool) (back : List ℕ) (n : Notes) : Type 0 where
  pub ascending : Ascending t
  pub markable : length t ≤ length ms
  pub awaited : TileTable back n.coming
  pub apart : (j : ℕ) → member j t ≡ true → member j (take n.coming back) ≡ false
  pub become : restored_by t ms back n ≡ l
  pub right : n.tally ≡ tally_of l

-- notes that have room for one more
pub record MayNote (t : List ℕ) (ms : List Bool) (back : List ℕ) (n : Notes) : Type 0 where
  pub noted : Foretold t (restored_by t ms back n) ms back n
  pub room : n.coming < length back
  pub few : length (restored_by t ms back n) ≤ most_tiles
