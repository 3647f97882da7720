-- `decisions::open_reply` meets its contract: behind the first test the tables are sound, so that the journal's bytes are there
use Rattle.std.proofs.Common.{◌∙◌, sym}
use Rattle.service.proofs.Laws.Soundness.{sound_is}
use Rattle.service.specs.World.{world}
use Rattle.decisions.proofs.open_reply.Goals as goal

pub overflow_sub-journal : goal.overflow_sub-journal
overflow_sub-journal c =
    let a = c.args in
    (sound_is (world a.session a.tiles.now a.operations.now a.journal.now) (sym c.sound.ensures ∙ c.if-not-sound.false)).journal_fits
