-- `operating::start` meets its contract: by whether the tables can start, and then by the room for the rule's bytes
use Rattle.std.proofs.Common.{◌∙◌, sym}
use Rattle.service.specs.Calls.{advanced_by, start_world}
use Rattle.service.proofs.Laws.Soundness.{sound_is}
use Rattle.admission.specs.Laws.{tiles_count}
use Rattle.operating.specs.Laws.{start_done, start_short, start_unsound}
use Rattle.operating.proofs.start.Goals as goal

pub returns-then-not-can_start : goal.returns-then-not-can_start
returns-then-not-can_start c =
    let a = c.args in
    start_unsound a.rule a.tiles.now a.count a.operations.now a.journal.now (sym (c.can_start.ensures a.rule) ∙ c.if-not-can_start.true) _ c.refused_start.ensures

pub returns-then-journal-written : goal.returns-then-journal-written
returns-then-journal-written c =
    let a = c.args in
    let few = rw c.rule_size-written.ensures at c.if-journal-written.true in
    start_short a.rule a.tiles.now a.count a.operations.now a.journal.now (sym (c.can_start.ensures a.rule) ∙ c.if-not-can_start.false) few _
    c.refused_start-then-journal-written.ensures

pub slice_bounds-fresh_session-end : goal.slice_bounds-fresh_session-end
slice_bounds-fresh_session-end c =
    let a = c.args in
    let w = start_world a.rule a.tiles.now a.count a.operations.now a.journal.now in
    sym (tiles_count w (sound_is w (sym (c.can_start.ensures a.rule) ∙ c.if-not-can_start.false)).tables)

pub fresh_session-begun-requires : goal.fresh_session-begun-requires
fresh_session-begun-requires c =
    let a = c.args in
    let w = start_world a.rule a.tiles.now a.count a.operations.now a.journal.now in
    let o = (sound_is w (sym (c.can_start.ensures a.rule) ∙ c.if-not-can_start.false)).tables in
    (o.ascending, o.keys)

pub returns : goal.returns
returns c =
    let a = c.args in
    let w = start_world a.rule a.tiles.now a.count a.operations.now a.journal.now in
    let used = tiles_count w (sound_is w (sym (c.can_start.ensures a.rule) ∙ c.if-not-can_start.false)).tables in
    let fresh_so = rw used at c.fresh_session-begun.ensures in
    let room = rw c.rule_size-written.ensures at c.if-journal-written.false in
    let begun = c.advanced.ensures ∙ (λ i. advanced_by (fresh_so i) (c.rule_size-written.ensures i)) in
    start_done a.rule a.tiles.now a.count a.operations.now a.journal.now (sym (c.can_start.ensures a.rule) ∙ c.if-not-can_start.false) room _ begun _ _
    (c.fill.ensures.after (λ y e. e)) c.write_rule.ensures
