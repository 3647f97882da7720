-- `closing::abort_job` meets its contract: the recoveries, newest first, and then what a commit does
use Rattle.std.proofs.Common.{Bool, List, [], true, ◌∷◌, ◌∙◌, ◌≡◌, ap, arith, length, length-take-le, take}
use Rattle.lists.specs.Lists.{All}
use Rattle.admission.specs.Laws.{entry_table, room_there}
use Rattle.entries.specs.Table.{without_job}
use Rattle.grid.specs.Tile.{is_key}
use Rattle.service.specs.Entry.{key_in}
use Rattle.service.specs.Sound.{Entry, Tabled}
use Rattle.service.specs.World.{World, used_operations, world}
use Rattle.std.proofs.Common.{ℕ}
use Rattle.engine.specs.Counting.{tally_in}
use Rattle.restoring.specs.Recovery.{Undoable}
use Rattle.closing.proofs.Laws.{tallied}
use Rattle.closing.specs.Ending.{closed}
use Rattle.closing.specs.Forms.{aborted}
use Rattle.closing.proofs.abort_job.Goals as goal

-- the recoveries can run
undoable : (w : World) → Tabled w → Undoable w.tiles (tally_in w.session) (used_operations w)
undoable w o =
    record {
      tallied = tallied w o;
      few = omega (arith, length-take-le w.session.operations w.operations o.operations_fit, o.operations_fit, o.few_operations);
      keys = valid_keys w.session.marks (used_operations w) o.entries;
      room = room_there w o;
    }
  where
    valid_keys : (marks : List Bool) (es : List ℕ) → All (Entry marks) es → All (λ e. is_key (key_in e) ≡ true) es
    valid_keys marks [] h = tt
    valid_keys marks (e ∷ es) h = (h.0.key_valid, valid_keys marks es h.1)

pub undo-left-requires : goal.undo-left-requires
undo-left-requires c =
    let a = c.args in
    rw c.tally_of-tally.ensures (undoable (world a.session a.tiles.now a.operations.now []) c.requires.tabled)

pub clear_job-next-requires : goal.clear_job-next-requires
clear_job-next-requires c = let a = c.args in (entry_table (world a.session a.tiles.now a.operations.now []) c.requires.tabled, c.requires.named)

pub returns : goal.returns
returns c =
    let a = c.args in
    let undone = rw c.tally_of-tally.ensures at c.undo-left.ensures in
    let cleared = c.clear_job-next.ensures in
    rw c.counting.ensures
    (aborted (world a.session a.tiles.now a.operations.now []) c.requires.tabled a.job _ _ _ _ undone.0 undone.1
    (cleared.0 ∙ ap (closed a.session a.job (length (without_job a.job (take a.session.operations a.operations.now)))) c.spoken_without-spoken.ensures)
    cleared.1)
