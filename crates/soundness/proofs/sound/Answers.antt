-- `soundness::sound` meets its contract: its tests are those of the definition, and the tables' tests do not look at the journal
use Rattle.std.proofs.Common.{arith}
use Rattle.std.proofs.lemmas.Grind.{common_steps}
use Rattle.service.specs.Sound.{sound_B, tabled_B}
use Rattle.soundness.proofs.sound.Goals as goal

pub returns-then-session-journal : goal.returns-then-session-journal
unfolding sound_B tabled_B
returns-then-session-journal c = grind (arith, common_steps)

pub returns-else-session-journal : goal.returns-else-session-journal
unfolding sound_B tabled_B
returns-else-session-journal c = grind (arith, common_steps)
