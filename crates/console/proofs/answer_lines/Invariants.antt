-- what is lent is there, and each line takes one of those that may come
use Rattle.std.proofs.Common.{◌*◌, ◌+◌, ◌≤◌, length}
use Rattle.desk.specs.Lent.{Lent}
use Rattle.console.proofs.answer_lines.Given as goal

abbrev pub invariant-loop-more : goal.invariant-loop-more
invariant-loop-more l =
    (l.at ≤ length l.text) × (l.at + l.more * 65536 ≤ l.left * 65536)
    × Lent l.reached l.initial.tiles l.initial.operations l.initial.journal

abbrev pub decreases-loop-more : goal.decreases-loop-more
decreases-loop-more l = l.more
