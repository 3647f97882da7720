-- `restoring::note_job` meets its contract: at each turn the entries from i on have been noted
use Rattle.std.proofs.Common.{◌∙◌, sym}
use Rattle.restoring.proofs.Downward.{begins, may_note, passes, takes}
use Rattle.restoring.specs.Laws.{entry_valid}
use Rattle.restoring.proofs.note_job.Goals as goal

pub loop-i-init : goal.loop-i-init
loop-i-init c = begins c.requires.0 c.args.job c.requires.1

pub note_recovery-notes-requires : goal.note_recovery-notes-requires
note_recovery-notes-requires c =
    let inv = c.loop-i.invariant in
    let some = c.loop-i-test.true in
    (may_note c.requires.0 c.args.job c.requires.1 inv some, entry_valid c.requires.0 c.args.job some inv.inside)

pub loop-i-preserved-then-job_in-job : goal.loop-i-preserved-then-job_in-job
loop-i-preserved-then-job_in-job c =
    takes c.requires.0 c.args.job c.requires.1 c.loop-i.invariant c.loop-i-test.true
    (sym c.job_in.ensures ∙ c.if-job_in-job.true) _ _ _ c.note_recovery-notes.auto.marks c.note_recovery-notes.auto.back c.note_recovery-notes.ensures

pub loop-i-preserved : goal.loop-i-preserved
loop-i-preserved c =
    passes c.requires.0 c.args.job c.requires.1 c.loop-i.invariant c.loop-i-test.true (λ e. c.if-job_in-job.false (c.job_in.ensures ∙ e))
