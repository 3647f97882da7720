-- The recoveries of a job's entries, in the numbers that the code moves
use Rattle.std.specs.Prelude.{None, Option, Some, cond, true, List, [], ◌∷◌, map, ◌≡◌, ◌+◌, ◌≤◌, ℕ, eqb, drop, length, take}
use Rattle.lists.specs.Lists.{All}
use Rattle.strict.specs.Book.{counted}
use Rattle.strict.specs.Tiles.{delete, insert_tile}
use Rattle.strict.specs.declared.Procedure.TheVariants.{Del, Ins}
use Rattle.strict.specs.declared.Procedure.{Procedure}
use Rattle.grid.specs.Tile.{is_key}
use Rattle.service.specs.Entry.{job_in, key_in, kind_in, op_in}
use Rattle.service.specs.Limits.{most_operations, most_tiles}
use Rattle.search.specs.Table.{TileTable}
use Rattle.levels.specs.Tally.{tally_of}
use Rattle.levels.specs.declared.Tally.{Tally}

-- one entry's recovery: kind 1 is undone by del, kind 3 by ins, the others by nothing
abbrev pub recovered : ℕ → List ℕ → List ℕ
recovered e t = cond (eqb (kind_in e) 1) (delete (key_in e) t) (cond (eqb (kind_in e) 3) (insert_tile (key_in e) t) t)

-- the procedure that undoes an entry of a kind
abbrev pub recovery_of : ℕ → Option Procedure
recovery_of n = cond (eqb n 1) (Some Del) (cond (eqb n 3) (Some Ins) None)

-- those of a job's entries, newest first
abbrev pub recovered_job : ℕ → List ℕ → List ℕ → List ℕ
recovered_job job [] t = t
recovered_job job (e ∷ es) t = cond (eqb job (job_in e)) (recovered e (recovered_job job es t)) (recovered_job job es t)

-- those of its entries from i on
abbrev pub undone_from : ℕ → ℕ → List ℕ → List ℕ → List ℕ
undone_from i job es t = recovered_job job (drop i es) t

-- a tile table, with a count of its tiles that is right
pub record Tallied (tiles : List ℕ) (c : Tally) : Type 0 where
  pub table : TileTable tiles c.tiles
  pub right : c ≡ tally_of (take c.tiles tiles)
  pub few : length tiles ≤ most_tiles

-- entries of which any job's can be undone: the keys are valid, and there is room for what comes back
pub record Undoable (tiles : List ℕ) (c : Tally) (es : List ℕ) : Type 0 where
  pub tallied : Tallied tiles c
  pub few : length es ≤ most_operations
  pub keys : All (λ e. is_key (key_in e) ≡ true) es
  pub room : length (take c.tiles tiles) + counted (take c.tiles tiles) (map op_in es) ≤ length tiles
