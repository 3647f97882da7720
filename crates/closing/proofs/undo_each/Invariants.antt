use Rattle.closing.proofs.Downward.{Undoing}
use Rattle.closing.proofs.undo_each.Given as goal

-- at each turn the entries from i on have been undone
abbrev pub invariant-loop-i : goal.invariant-loop-i
invariant-loop-i l = Undoing l.i l.initial.tiles l.initial.left l.entries l.job l.tiles l.left
