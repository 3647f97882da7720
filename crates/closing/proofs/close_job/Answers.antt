-- `closing::close_job` meets its contract: the job's entries go, with what they speak for
use Rattle.std.proofs.Common.{[], ◌∙◌, ap, length, take}
use Rattle.admission.specs.Laws.{entry_table}
use Rattle.entries.specs.Table.{without_job}
use Rattle.service.specs.World.{world}
use Rattle.closing.specs.Ending.{closed}
use Rattle.closing.specs.Forms.{after_commit}
use Rattle.closing.proofs.close_job.Goals as goal

pub clear_job-requires : goal.clear_job-requires
clear_job-requires c = let a = c.args in (entry_table (world a.session a.tiles.now a.operations.now []) c.requires.tabled, c.requires.named)

pub returns : goal.returns
returns c =
    let a = c.args in
    let cleared = c.clear_job.ensures in
    after_commit (world a.session a.tiles.now a.operations.now []) c.requires.tabled a.job _ _
    (cleared.0 ∙ ap (closed a.session a.job (length (without_job a.job (take a.session.operations a.operations.now)))) c.spoken_without-spoken.ensures)
    cleared.1
