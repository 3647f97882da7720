-- What is ahead at each turn is what was ahead at the first
use Rattle.std.proofs.Common.{◌∙◌, ap}
use Rattle.rectangles.specs.Rectangles.{carried_all}
use Rattle.service.specs.World.{world}
use Rattle.placing.specs.Laws.Parting.{run_may, run_more}
use Rattle.placing.proofs.place_all.Goals as goal

pub place_run-reached-requires : goal.place_run-reached-requires
place_run-reached-requires c = rw c.split_at.ensures.front (run_may _ _ c.loop-rest.invariant, c.run_end.ensures.ascends)

pub loop-rest-preserved : goal.loop-rest-preserved
loop-rest-preserved c =
    let a = c.args in
    let l = c.loop-rest in
    rw c.split_at.ensures.back
    (run_more _ _ l.invariant _
    (c.place_run-reached.ensures ∙ ap (carried_all (world l.reached l.tiles l.operations l.journal) a.job a.sheet a.procedure) c.split_at.ensures.front))
