use Rattle.std.specs.Prelude.{take}
use Rattle.strict.specs.Tiles.{Ascending}
use Rattle.runs.proofs.run_end.Given as goal

-- The keys passed so far ascend
abbrev pub invariant-loop-end : goal.invariant-loop-end
invariant-loop-end l = Ascending (take l.end l.keys)
