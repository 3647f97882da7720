use Rattle.std.specs.Prelude.{◌-◌, length}
use Rattle.runs.proofs.Keeping.{Keeping}
use Rattle.runs.proofs.keep_others.Given as goal

-- What is kept, with what is left to keep of the tiles ahead, is the same at each turn
abbrev pub invariant-loop-i : goal.invariant-loop-i
invariant-loop-i l = Keeping l.keys l.initial.tiles l.count l.tiles l.i l.at l.left

abbrev pub invariant-loop-at : goal.invariant-loop-at
invariant-loop-at l = Keeping l.keys l.fn.tiles l.count l.tiles l.i l.at l.left

abbrev pub decreases-loop-at : goal.decreases-loop-at
decreases-loop-at l = length l.keys - l.at
