-- `soundness::can_start` meets its contract: its tests are what is left of the definition's where no job is open and no operation is used
use Rattle.std.proofs.Common.{arith}
use Rattle.std.proofs.lemmas.Grind.{common_steps}
use Rattle.soundness.proofs.Laws.{start_parts}
use Rattle.soundness.proofs.can_start.Goals as goal

pub returns-then-tiles_sound : goal.returns-then-tiles_sound
returns-then-tiles_sound c rule = let a = c.args in grind (arith, common_steps, start_parts rule a.tiles.now a.count a.operations.now a.journal.now)

pub returns-else-tiles_sound : goal.returns-else-tiles_sound
returns-else-tiles_sound c rule = let a = c.args in grind (arith, common_steps, start_parts rule a.tiles.now a.count a.operations.now a.journal.now)
