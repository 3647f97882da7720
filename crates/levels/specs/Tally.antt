-- The tiles counted, in all and by level
use Rattle.std.specs.Prelude.{Bool, cond, true, List, ◌≡◌, ◌+◌, ◌-◌, ◌<◌, ◌≤◌, ℕ, get_or, length, set}
use Rattle.strict.specs.declared.Procedure.TheVariants.{Del, Ins, Mem}
use Rattle.strict.specs.declared.Procedure.{Procedure}
use Rattle.grid.specs.Levels.{level_place, levels_of}
use Rattle.grid.specs.Tile.{is_key}
use Rattle.service.specs.Limits.{most_tiles}
use Rattle.levels.specs.declared.Tally.{Tally}

-- what a fresh count of the tiles t gives
abbrev pub tally_of : List ℕ → Tally
tally_of t = record { tiles = length t; levels = levels_of t }

-- the tile k comes, or goes
abbrev pub level_at : Tally → ℕ → ℕ
level_at c k = get_or c.levels (level_place k) 0

abbrev pub raised : Tally → ℕ → Tally
raised c k = record { tiles = c.tiles + 1; levels = set c.levels (level_place k) (level_at c k + 1) }

abbrev pub lowered : Tally → ℕ → Tally
lowered c k = record { tiles = c.tiles - 1; levels = set c.levels (level_place k) (level_at c k - 1) }

-- after a procedure on tile k, that was there or not
abbrev pub tally_after : Tally → Procedure → ℕ → Bool → Tally
tally_after c Ins k there = cond there c (raised c k)
tally_after c Del k there = cond there (lowered c k) c
tally_after c Mem k there = c

-- what lets the numbers move by one
pub record Movable (c : Tally) (k : ℕ) (there : Bool) : Type 0 where
  pub valid : is_key k ≡ true
  pub few : c.tiles ≤ most_tiles
  pub level_few : level_at c k ≤ most_tiles
  pub some : there ≡ true → 0 < c.tiles
  pub level_some : there ≡ true → 0 < level_at c k
