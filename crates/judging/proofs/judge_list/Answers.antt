-- `judging::judge_list` meets its contract: what was found decides
use Rattle.std.proofs.lemmas.Result.{err_from_is_err_and}
use Rattle.service.specs.World.{world}
use Rattle.judging.specs.Laws.{finds, held_told, need_few, room_told}
use Rattle.judging.proofs.judge_list.Goals as goal

pub returns-in_err-need : goal.returns-in_err-need
returns-in_err-need c =
    let a = c.args in
    let w = world a.session a.tiles.now a.operations.now a.journal.now in
    let e = err_from_is_err_and c.from_residual.result c.from_residual.ensures.1 in
    rw (e.1, e.2) (held_told w a.job a.procedure a.list.now _ (finds _ _ _ _ _ _ _ c.look_all.ensures c.in_err-need.was))

pub lacking-requires : goal.lacking-requires
lacking-requires c =
    let a = c.args in
    let w = world a.session a.tiles.now a.operations.now a.journal.now in
    (c.requires.0, need_few w a.job a.procedure a.list.now _ (finds _ _ _ _ _ _ _ c.look_all.ensures c.in_ok-need.was) c.requires.1, c.requires.1)

pub returns : goal.returns
returns c =
    let a = c.args in
    let w = world a.session a.tiles.now a.operations.now a.journal.now in
    room_told w a.job a.procedure a.list.now _ (finds _ _ _ _ _ _ _ c.look_all.ensures c.in_ok-need.was) _ c.lacking.ensures
