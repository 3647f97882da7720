-- `closing::undo_each` meets its contract: at each turn the entries from i on have been undone
use Rattle.std.proofs.Common.{◌∙◌, sym}
use Rattle.restoring.specs.Laws.{entry_valid}
use Rattle.closing.proofs.Downward.{begins, passes, recovers, recovery_fits, tallied_now}
use Rattle.closing.proofs.undo_each.Goals as goal

pub loop-i-init : goal.loop-i-init
loop-i-init c = begins c.requires c.args.job

pub recover-left-requires : goal.recover-left-requires
recover-left-requires c =
    let inv = c.loop-i.invariant in
    let some = c.loop-i-test.true in (
      tallied_now c.requires c.args.job inv,
      entry_valid c.requires c.args.job some inv.inside,
      recovery_fits c.requires c.args.job inv some (sym c.job_in.ensures ∙ c.if-job_in-job.true),
    )

pub loop-i-preserved-then-job_in-job : goal.loop-i-preserved-then-job_in-job
loop-i-preserved-then-job_in-job c =
    recovers c.requires c.args.job c.loop-i.invariant c.loop-i-test.true
    (sym c.job_in.ensures ∙ c.if-job_in-job.true) _ _ c.recover-left.ensures

pub loop-i-preserved : goal.loop-i-preserved
loop-i-preserved c =
    passes c.requires c.args.job c.loop-i.invariant c.loop-i-test.true (λ e. c.if-job_in-job.false (c.job_in.ensures ∙ e))
