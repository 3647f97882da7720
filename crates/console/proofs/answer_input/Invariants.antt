-- a read fills more of the space, and a line takes one of those that may come
use Rattle.std.proofs.Common.{◌*◌, ◌+◌, ◌-◌, ◌≤◌}
use Rattle.desk.specs.Lent.{Lent}
use Rattle.console.proofs.answer_input.Given as goal

abbrev pub invariant-loop-reached : goal.invariant-loop-reached
invariant-loop-reached l =
    (l.reached.at ≤ 65536)
    × Lent l.reached.desk l.initial.tiles l.initial.operations l.initial.journal

abbrev pub decreases-loop-reached : goal.decreases-loop-reached
decreases-loop-reached l = l.reached.left * 65536 + (65536 - l.reached.at)
