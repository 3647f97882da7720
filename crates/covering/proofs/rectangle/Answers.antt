-- `covering::rectangle` meets its contract: 1, 2 and 3, and then as its shape says
use Rattle.std.specs.Prelude.{not}
use Rattle.std.proofs.Common.{◌∙◌, ap, sym}
use Rattle.service.proofs.Laws.Telling.{done_zero}
use Rattle.service.specs.World.{world}
use Rattle.covering.specs.Laws.{gate_ready, gate_told}
use Rattle.covering.proofs.rectangle.Goals as goal

pub returns-then-is_err : goal.returns-then-is_err
returns-then-is_err c =
    let a = c.args in
    let refused = sym (done_zero c.end_reply-gate.result) ∙ c.is_err.ensures.negation ∙ ap not c.if-is_err.true in
    gate_told (world a.session a.tiles.now a.operations.now a.journal.now) a.job a.sheet a.change a.r _ c.end_reply-gate.ensures refused

pub carry_shaped-requires : goal.carry_shaped-requires
carry_shaped-requires c =
    let a = c.args in
    let zero = sym (done_zero c.end_reply-gate.result) ∙ c.is_err.ensures.negation ∙ ap not c.if-is_err.false in
    gate_ready (world a.session a.tiles.now a.operations.now a.journal.now) a.job _ c.end_reply-gate.ensures zero
