use Rattle.std.specs.Prelude.{length}
use Rattle.rectangles.specs.Fitting.{Ahead}
use Rattle.service.specs.World.{world}
use Rattle.placing.proofs.place_all.Given as goal

-- What is ahead at each turn is what was ahead at the first
abbrev pub invariant-loop-rest : goal.invariant-loop-rest
invariant-loop-rest l =
    Ahead l.job l.sheet l.procedure (world l.initial.reached l.initial.tiles l.initial.operations l.initial.journal) l.keys (world l.reached l.tiles l.operations l.journal) l.rest

abbrev pub decreases-loop-rest : goal.decreases-loop-rest
decreases-loop-rest l = length l.rest
