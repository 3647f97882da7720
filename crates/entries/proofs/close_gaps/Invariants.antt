use Rattle.entries.proofs.Gaps.{Closed}
use Rattle.entries.proofs.close_gaps.Given as goal

-- after each turn the gaps are closed among the entries passed
abbrev pub invariant-loop-i : goal.invariant-loop-i
invariant-loop-i l = Closed l.job l.initial.operations l.operations l.left l.i
