-- `placing::place_run` meets its contract: what is written of each operation, and the tiles as they have to be
use Rattle.admission.specs.Laws.{tile_table}
use Rattle.service.proofs.Laws.Soundness.{sound_is}
use Rattle.service.specs.World.{world}
use Rattle.placing.specs.Laws.Parting.{run_done}
use Rattle.placing.proofs.place_run.Goals as goal

pub affect_run-requires : goal.affect_run-requires
affect_run-requires c =
    let a = c.args in
    let given = world a.session a.tiles.now a.operations.now a.journal.now in
    let n = c.note_all-reached.ensures in
    (tile_table given (sound_is given c.requires.0.fits.ready.is_sound_there).tables, c.requires.1, n.counted, n.fits)

pub returns : goal.returns
returns c = run_done _ c.note_all-reached.ensures c.affect_run.ensures
