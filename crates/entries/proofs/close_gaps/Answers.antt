-- `entries::close_gaps` meets its contract: after each turn the gaps are closed among the entries passed
use Rattle.std.proofs.Common.{◌≡◌, ◌<◌, arith, length}
use Rattle.entries.proofs.Gaps.{ends, goes, starts, stays}
use Rattle.entries.proofs.close_gaps.Goals as goal
use Rattle.entries.proofs.close_gaps.Goals.{else-job_in-job, then-job_in-job}

pub loop-i-init : goal.loop-i-init
loop-i-init c = starts _ _

pub loop-i-preserved : goal.loop-i-preserved
loop-i-preserved c =
    let l = c.loop-i in
    let inside : l.i < length c.args.operations.now = omega arith in
    elim c.if-job_in-job.branch [ then-job_in-job w ↦ rw (w.operations-is, w.left-is) (stays l.invariant inside (rw c.job_in.ensures at w.if-job_in-job.true)) | else-job_in-job w ↦ rw (w.operations-is, w.left-is) (goes l.invariant inside (rw c.job_in.ensures at w.if-job_in-job.false)) ]

pub returns : goal.returns
returns c =
    let l = c.loop-i in
    let done : l.i ≡ c.args.count = omega arith in
    let all = rw done at l.invariant in
    (all.counted, ends all c.requires)
