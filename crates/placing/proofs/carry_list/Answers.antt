-- `placing::carry_list` meets its contract: all of it is judged, and then all is carried out
use Rattle.std.specs.Prelude.{not}
use Rattle.std.proofs.Common.{◌∙◌, ◌≡◌, ap, length, rules, sym}
use Rattle.service.proofs.Laws.Soundness.{sound_is}
use Rattle.service.proofs.Laws.Telling.{done_zero}
use Rattle.service.specs.World.{world}
use Rattle.placing.specs.Laws.Carrying.{list_ahead, list_done, list_refused}
use Rattle.placing.proofs.carry_list.Goals as goal

pub judge_list-reply-requires : goal.judge_list-reply-requires
judge_list-reply-requires c = (sound_is _ c.requires.ready.is_sound_there, c.requires.few)

pub returns-then-is_err : goal.returns-then-is_err
returns-then-is_err c =
    let a = c.args in
    let w = world a.session a.tiles.now a.operations.now a.journal.now in
    let refused = sym (done_zero c.judge_list-reply.result) ∙ c.is_err.ensures.negation ∙ ap not c.if-is_err.true in
    list_refused w a.job a.sheet a.procedure a.keys.now _ c.judge_list-reply.ensures refused

pub place_all-requires : goal.place_all-requires
place_all-requires c =
    let a = c.args in
    let w = world a.session a.tiles.now a.operations.now a.journal.now in
    let full : length a.session.marks ≡ 64 = search (rules, c.well_formed) in
    let zero = sym (done_zero c.judge_list-reply.result) ∙ c.is_err.ensures.negation ∙ ap not c.if-is_err.false in
    list_ahead w a.job a.sheet a.procedure a.keys.now c.requires full _ c.judge_list-reply.ensures zero

pub returns : goal.returns
returns c =
    let a = c.args in
    let w = world a.session a.tiles.now a.operations.now a.journal.now in
    let zero = sym (done_zero c.judge_list-reply.result) ∙ c.is_err.ensures.negation ∙ ap not c.if-is_err.false in
    list_done w a.job a.sheet a.procedure a.keys.now _ c.judge_list-reply.ensures zero _ c.place_all.ensures
