-- `restoring::restore_by` meets its contract: what is noted is what the recoveries leave, and it is done
use mathlib.Core.Path.{◌∙◌, ap}
use lib.ListN.{length}
use Rattle.lists.specs.Lists.{padded}
use Rattle.restoring.proofs.Noting.{as_noted}
use Rattle.restoring.specs.Laws.{undone_fits}
use Rattle.restoring.proofs.restore_by.Goals as goal

pub move_noted-requires : goal.move_noted-requires
move_noted-requires c =
    let noted = c.note_job-notes.ensures in
    (c.requires.0.tallied.table, as_noted noted, rw noted.become (undone_fits c.requires.0 c.args.job 0))

pub returns : goal.returns
returns c =
    let noted = c.note_job-notes.ensures in
    (noted.right, c.move_noted.ensures ∙ ap (padded (length c.args.tiles.now)) noted.become)
