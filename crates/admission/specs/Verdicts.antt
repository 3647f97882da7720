-- Whether an operation is admitted, and what the search for its tile finds; and if not, why
use Rattle.std.specs.Prelude.{◌&&◌, cond, Result, Ok, Err, List, map, ℕ, eqb, length}
use Rattle.std.proofs.Math.Option.{Option, none, some}
use Rattle.service.specs.Admission.{State}
use Rattle.service.specs.Entry.{op_in}
use Rattle.service.specs.declared.Reason.TheVariants as reason
use Rattle.service.specs.declared.Reason.{Reason}
use Rattle.strict.specs.Book.{Book, held_by, needs_place, places_taken}
use Rattle.strict.specs.Commutativity.{Signature}
use Rattle.strict.specs.Operations.{begun}
use Rattle.strict.specs.declared.Procedure.{Procedure}
use Rattle.strict.specs.declared.Rule.{Rule}
use Rattle.tiles.specs.Table.{spot_of}
use Rattle.tiles.specs.declared.Spot.{Spot}
use Rattle.admission.specs.declared.Hindrance.TheVariants.{Held, NoOperationRoom, NoTileRoom}
use Rattle.admission.specs.declared.Hindrance.{Hindrance}
use Rattle.admission.specs.declared.Holder.{Holder}

-- what the keys of the tiles and the entries say
abbrev pub book_of : List ℕ → List ℕ → Book
book_of t es = record { tiles = t; table = map op_in es }

abbrev pub holder_of : Signature → Holder
holder_of by = record { job = by.job; sheet = by.sheet }

-- the holder, or a value where there is none
abbrev pub held_or : {T : Type 0} → Option Signature → T → Result T Holder
held_or (some by) x = Err (holder_of by)
held_or none x = Ok x

unfoldable pub unheld_of : Rule → Book → ℕ → Procedure → ℕ → Result Spot Holder
unheld_of b m job p k = held_or (held_by b m job p k) (spot_of k m.tiles)

-- the holder is judged first, then tile room, then operation room
abbrev pub by_holder : Option Signature → Result Spot Hindrance → Result Spot Hindrance
by_holder (some by) other = Err (Held (holder_of by))
by_holder none other = other

unfoldable pub verdict_of : ℕ → ℕ → State → ℕ → Procedure → ℕ → Result Spot Hindrance
verdict_of places slots s job p k =
    by_holder (held_by s.rule s.book job p k)
    (cond (needs_place s.rule s.book.table (begun job p k s.book.tiles) && eqb (places_taken s.rule s.book) places) (Err NoTileRoom)
    (cond (eqb (length s.book.table) slots) (Err NoOperationRoom) (Ok (spot_of k s.book.tiles))))

-- what a call replies to whose tile is held, and to what is hindered
abbrev pub held_reason : Holder → Reason
held_reason by = reason.Held by.job by.sheet

abbrev pub reason_of : Hindrance → Reason
reason_of (Held by) = held_reason by
reason_of NoTileRoom = reason.NoTileRoom
reason_of NoOperationRoom = reason.NoOperationRoom
