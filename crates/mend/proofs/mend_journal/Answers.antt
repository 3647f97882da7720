-- `mend::mend_journal` is safe and ends: what it tells of is what the call promises
use Rattle.mends.proofs.Theorems.{mend_within}
use Rattle.mend.proofs.mend_journal.Goals as goal

pub tell-requires : goal.tell-requires
tell-requires c =
    let w = mend_within _ _ _ _ _ _ c.mend-told.ensures in
    (w.1, w.2)
