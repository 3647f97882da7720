-- Without the sheets: what is left of an operation, a history, a book and a holder where sheets are not looked at
use Rattle.std.specs.Prelude.{map}
use Rattle.std.proofs.Math.Option.{Option, none, some}
use Rattle.strict.specs.Book.{Book}
use Rattle.strict.specs.Commutativity.{Signature}
use Rattle.strict.specs.Histories.{Event, abort, commit, open_job, operation}
use Rattle.strict.specs.Operations.{Op, of_sheet}
use Rattle.strict.specs.Strict.{Log, ◌▷◌, empty}

abbrev pub sheetless : Op → Op
sheetless o = of_sheet 0 o

abbrev pub sheetless_book : Book → Book
sheetless_book m = record { tiles = m.tiles; table = map sheetless m.table }

abbrev pub sheetless_event : Event → Event
sheetless_event (open_job j) = open_job j
sheetless_event (operation j sheet p k) = operation j 0 p k
sheetless_event (commit j) = commit j
sheetless_event (abort j) = abort j

abbrev pub sheetless_history : Log Event → Log Event
sheetless_history empty = empty
sheetless_history (h ▷ e) = sheetless_history h ▷ sheetless_event e

abbrev pub sheetless_by : Option Signature → Option Signature
sheetless_by none = none
sheetless_by (some by) = some (record { job = by.job; sheet = 0 })
