-- `covering::carry_rectangle` meets its contract: the list as it was written is the rectangle's
use Rattle.std.proofs.Common.{arith, length-take-le}
use Rattle.service.specs.World.{world}
use Rattle.shapes.specs.Laws.Listed.{shape_few}
use Rattle.covering.specs.Laws.{asks_carries}
use Rattle.covering.proofs.carry_rectangle.Goals as goal

pub carry_list-requires : goal.carry_list-requires
carry_list-requires c =
    let a = c.args in
    let all = length-take-le a.shape.n c.list_tiles.new.keys (omega (arith, c.list_tiles.auto.keys, shape_few a.r a.shape c.requires.shape)) in
    asks_carries (world a.session a.tiles.now a.operations.now a.journal.now) a.job a.r a.shape c.requires _ all c.list_tiles.ensures
