-- What is used lies inside the space, which keeps its length; each read leaves less of it.
use Rattle.std.proofs.Common.{length, ◌-◌, ◌≤◌}
use Rattle.terminal.proofs.read_all_counted.Given as goal

abbrev pub invariant-loop-used : goal.invariant-loop-used
invariant-loop-used l = l.used ≤ length l.space

abbrev pub decreases-loop-used : goal.decreases-loop-used
decreases-loop-used l = length l.initial.space - l.used
