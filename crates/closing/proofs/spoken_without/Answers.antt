-- `closing::spoken_without` meets its contract: what the job's entries speak for is a part of all
use Rattle.std.proofs.Common.{[], arith, length-take-le}
use Rattle.service.specs.World.{world}
use Rattle.closing.specs.Forms.{spoken_left_lem}
use Rattle.closing.proofs.spoken_without.Goals as goal

pub count_spoken-requires : goal.count_spoken-requires
count_spoken-requires c =
    let a = c.args in
    let few = length-take-le a.session.operations a.operations.now c.requires.operations_fit in
    (c.requires.ascending, omega (arith, few, c.requires.operations_fit, c.requires.few_operations))

pub overflow_sub-result : goal.overflow_sub-result
overflow_sub-result c =
    let a = c.args in
    omega (arith, c.count_spoken.ensures.0, spoken_left_lem (world a.session a.tiles.now a.operations.now []) c.requires a.job)

pub returns : goal.returns
returns c =
    let a = c.args in
    omega (arith, c.count_spoken.ensures.0, spoken_left_lem (world a.session a.tiles.now a.operations.now []) c.requires a.job)
