-- `judging::look_all` meets its contract: what is left at each turn, with what was counted, is what there was at the first
use Rattle.std.specs.Prelude.{Err}
use Rattle.std.proofs.Common.{◌∙◌, ap, arith}
use Rattle.std.proofs.lemmas.Result.{err_from_is_err_and}
use Rattle.judging.specs.Laws.{left_held, left_more, left_over, seen_so}
use Rattle.judging.proofs.look_all.Goals as goal
use Rattle.judging.proofs.look_all.Goals.{then-branch, else-branch}

pub returns-in_err-look_past : goal.returns-in_err-look_past
returns-in_err-look_past c =
    let e = err_from_is_err_and c.from_residual.result c.from_residual.ensures.1 in
    e.1 ∙ ap Err e.2
    ∙ left_held c.args.list.now c.loop-key.key-index c.loop-key.invariant.1 c.loop-key-test.true _
    (seen_so _ _ _ _ _ _ _ c.look_past.ensures c.in_err-look_past.was)

pub loop-key-preserved : goal.loop-key-preserved
loop-key-preserved c =
    let more = left_more c.args.list.now c.loop-key.key-index c.loop-key.invariant.1 c.loop-key-test.true _ c.if-branch.need
    (seen_so _ _ _ _ _ _ _ c.look_past.ensures c.in_ok-look_past.was) in
    elim c.if-branch.branch [ then-branch w ↦ (omega arith, more (rw w.if-branch.true (omega arith))) | else-branch w ↦ (omega arith, more (rw w.if-branch.false (omega arith))) ]

pub returns : goal.returns
returns c = left_over c.args.list.now c.loop-key.key-index c.loop-key.invariant.1 c.loop-key-test.false
