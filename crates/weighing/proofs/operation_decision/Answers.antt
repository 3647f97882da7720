-- `weighing::operation_decision` meets its contract: where no refusal of an end applies, the tables are sound
use Rattle.std.proofs.Common.{◌∙◌, ap, sym}
use Rattle.service.specs.Told.{told}
use Rattle.service.specs.World.{world}
use Rattle.weighing.specs.Laws.{passed_sound}
use Rattle.weighing.proofs.operation_decision.Goals as goal

pub judge_keyed-requires : goal.judge_keyed-requires
judge_keyed-requires c =
    let a = c.args in
    passed_sound (world a.session a.tiles.now a.operations.now a.journal.now) a.job _ (ap told (sym c.in_ok-end_reply.was) ∙ c.end_reply.ensures)
