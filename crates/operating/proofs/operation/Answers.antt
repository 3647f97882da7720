-- `operating::operation` meets its contract: as its decision says
use Rattle.std.proofs.Common.{◌∙◌, rules}
use Rattle.address.proofs.Signed.{field_read}
use Rattle.service.specs.World.{world}
use Rattle.operating.specs.Laws.{carried_decided, passes_decided, refusal_decided, spot_decided}
use Rattle.operating.proofs.operation.Goals as goal

pub carry_out-requires : goal.carry_out-requires
carry_out-requires c =
    let a = c.args in
    let w = world a.session a.tiles.now a.operations.now a.journal.now in (
      passes_decided w a.job a.sheet a.procedure a.address _ c.operation_decision.ensures _ c.in-Ok.is,
      spot_decided w a.job a.sheet a.procedure a.address _ c.operation_decision.ensures _ c.in-Ok.is,
    )

pub returns-in-Ok : goal.returns-in-Ok
returns-in-Ok c =
    let a = c.args in
    let w = world a.session a.tiles.now a.operations.now a.journal.now in
    rw (field_read c.in-Ok.field-0.turns (search rules)) at c.carry_out.ensures
    ∙ carried_decided w a.job a.sheet a.procedure a.address _ c.operation_decision.ensures _ c.in-Ok.is

pub returns-in-Err : goal.returns-in-Err
returns-in-Err c =
    let a = c.args in
    let w = world a.session a.tiles.now a.operations.now a.journal.now in
    refusal_decided w a.job a.sheet a.procedure a.address _ c.operation_decision.ensures _ c.in-Err.is
