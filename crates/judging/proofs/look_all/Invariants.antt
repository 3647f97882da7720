use Prim.Native.Nat.{◌≤◌}
use lib.ListN.{drop}
use Rattle.admission.specs.Verdicts.{book_of}
use Rattle.judging.specs.Laws.{Left}
use Rattle.judging.proofs.look_all.Given as goal

-- `judging::look_all` meets its contract: what is left at each turn, with what was counted, is what there was at the first
abbrev pub invariant-loop-key : goal.invariant-loop-key
invariant-loop-key l =
    (l.need ≤ l.key-index) × Left l.rule (book_of l.keys l.entries) l.job l.procedure l.list l.need (drop l.key-index l.list)
