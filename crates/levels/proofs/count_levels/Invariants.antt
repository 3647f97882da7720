use Rattle.std.specs.Prelude.{◌*◌, ◌+◌, ◌<◌, ◌≡◌, get_or, length, ℕ}
use Rattle.grid.specs.Levels.{tiles_at}
use Rattle.grid.specs.Limits.{zoom_factor}
use Rattle.search.specs.Table.{position_of}
use Rattle.levels.proofs.count_levels.Given as goal

-- The counts before i are in their places
abbrev pub invariant-loop-i : goal.invariant-loop-i
invariant-loop-i l =
    (length l.level-items ≡ 11)
    × (l.below ≡ position_of ((4 + l.i) * zoom_factor) l.keys)
    × ((j : ℕ) → j < l.i → get_or l.level-items j 0 ≡ tiles_at (4 + j) l.keys)
