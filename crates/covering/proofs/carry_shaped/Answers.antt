-- `covering::carry_shaped` meets its contract: 14, 5, 13, or the list
use Rattle.std.specs.Prelude.{Ok}
use Rattle.std.proofs.Common.{◌∙◌, ap, subst}
use Rattle.rectangles.proofs.Laws.Tiles.{extent}
use Rattle.rectangles.specs.Rectangles.{keys, listed}
use Rattle.service.specs.World.{world}
use Rattle.shapes.specs.Shaping.{Shapes}
use Rattle.covering.specs.Laws.{tells_flaw, tells_list}
use Rattle.placing.specs.Passes.{list_call}
use Rattle.covering.proofs.carry_shaped.Goals as goal

pub with_turns-requires : goal.with_turns-requires
with_turns-requires c =
    let found : Shapes c.args.r (Ok c.in-Ok.shape) = subst (Shapes c.args.r) c.in-Ok.is c.shape_of.ensures in
    (extent c.args.r found.0).high

pub returns-in-Ok : goal.returns-in-Ok
returns-in-Ok c =
    let a = c.args in
    let w = world a.session a.tiles.now a.operations.now a.journal.now in
    let found : Shapes a.r (Ok c.in-Ok.shape) = subst (Shapes a.r) c.in-Ok.is c.shape_of.ensures in
    let list = c.carry_rectangle-done.ensures ∙ ap (λ p. list_call w a.job a.sheet p (keys (listed a.r))) c.procedure_for-procedure.ensures in
    tells_list w a.job a.sheet a.change a.r c.requires found.0 _ _ _ list c.with_turns.ensures

pub returns-in-Err : goal.returns-in-Err
returns-in-Err c =
    let a = c.args in
    let w = world a.session a.tiles.now a.operations.now a.journal.now in
    rw c.from.ensures (tells_flaw w a.job a.sheet a.change a.r c.requires _ (subst (Shapes a.r) c.in-Err.is c.shape_of.ensures))
