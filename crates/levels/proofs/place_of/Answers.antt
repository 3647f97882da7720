-- A valid key has one of the eleven zooms
use Rattle.std.proofs.Common.{arith}
use Rattle.grid.proofs.Laws.Keys.{parts}
use Rattle.levels.proofs.place_of.Goals as goal

pub overflow_sub-result : goal.overflow_sub-result
overflow_sub-result c = omega (arith, (parts c.args.key c.requires).low)

pub returns : goal.returns
returns c = (rw c.from.ensures, omega (arith, (parts c.args.key c.requires).low, (parts c.args.key c.requires).high))
