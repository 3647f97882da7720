-- `weighing::judge_keyed` meets its contract: the engine's verdict, and then the journal's room
use Rattle.std.proofs.Common.{◌*◌, ◌+◌, sym, le-ltb, lt-ltb}
use Rattle.std.proofs.lemmas.Result.{err_from_is_err_and}
use Rattle.service.specs.Admission.{open_marks}
use Rattle.service.specs.Limits.{operation_size, short_size}
use Rattle.service.specs.World.{world}
use Rattle.admission.specs.Laws.{verdict_seen}
use Rattle.weighing.specs.Laws.{judges_hindered, judges_no_bytes, judges_perform}
use Rattle.weighing.proofs.judge_keyed.Goals as goal

pub returns-in_err-spot : goal.returns-in_err-spot
returns-in_err-spot c =
    let a = c.args in
    let w = world a.session a.tiles.now a.operations.now a.journal.now in
    let e = err_from_is_err_and c.from_residual.result c.from_residual.ensures.1 in
    rw (e.1, e.2) (judges_hindered w a.job a.procedure a.key _ (verdict_seen _ _ _ _ _ _ _ _ c.admit.ensures c.in_err-spot.was))

pub returns-then-left-open_jobs : goal.returns-then-left-open_jobs
returns-then-left-open_jobs c =
    let a = c.args in
    let w = world a.session a.tiles.now a.operations.now a.journal.now in
    judges_no_bytes w a.job a.procedure a.key _ (verdict_seen _ _ _ _ _ _ _ _ c.admit.ensures c.in_ok-spot.was)
    (lt-ltb _ (operation_size + short_size * open_marks a.session.marks) (rw (sym c.open_jobs.ensures.0) c.if-left-open_jobs.true))

pub returns : goal.returns
returns c =
    let a = c.args in
    let w = world a.session a.tiles.now a.operations.now a.journal.now in
    judges_perform w a.job a.procedure a.key _ (verdict_seen _ _ _ _ _ _ _ _ c.admit.ensures c.in_ok-spot.was)
    (le-ltb _ (operation_size + short_size * open_marks a.session.marks) (rw (sym c.open_jobs.ensures.0) c.if-left-open_jobs.false))
