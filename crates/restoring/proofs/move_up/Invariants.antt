use Rattle.restoring.proofs.Sweeping.{Sweeping}
use Rattle.restoring.proofs.move_up.Given as goal

-- what is kept, with the unmarked tiles ahead, is the same at each turn
abbrev pub invariant-loop-i : goal.invariant-loop-i
invariant-loop-i l = Sweeping l.marks l.initial.tiles l.count l.tiles l.i l.left
