use Rattle.restoring.proofs.Downward.{NotedFrom}
use Rattle.restoring.proofs.note_job.Given as goal

-- `restoring::note_job` meets its contract: at each turn the entries from i on have been noted
abbrev pub invariant-loop-i : goal.invariant-loop-i
invariant-loop-i l = NotedFrom l.i l.tiles l.initial.notes.tally l.entries l.job l.initial.marks l.initial.back l.marks l.back l.notes
