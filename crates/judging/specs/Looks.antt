-- What the pass over a list of keys that decides finds
use Rattle.std.specs.Prelude.{Bool, List, Result, ◌*◌, ◌+◌, ℕ, ltb, length}
use Rattle.strict.specs.Book.{Book, held_by, needs_place, places_taken}
use Rattle.strict.specs.Operations.{begun}
use Rattle.strict.specs.declared.Procedure.{Procedure}
use Rattle.strict.specs.declared.Rule.{Rule}
use Rattle.service.specs.Admission.{open_marks}
use Rattle.service.specs.Limits.{operation_size, short_size}
use Rattle.service.specs.Told.{Refusal}
use Rattle.service.specs.World.{World, free_bytes, state}
use Rattle.rectangles.specs.Rectangles.{first_held, needed, room_refusals}
use Rattle.admission.specs.Verdicts.{held_or}
use Rattle.admission.specs.declared.Holder.{Holder}

-- one tile: its holder, or whether it needs a place
unfoldable pub look_of : Rule → Book → ℕ → Procedure → ℕ → Result Bool Holder
look_of b m job p k = held_or (held_by b m job p k) (needs_place b m.table (begun job p k m.tiles))

-- a list: the first holder, or how many places it needs
unfoldable pub list_of : Rule → Book → ℕ → Procedure → List ℕ → Result ℕ Holder
list_of b m job p ks = held_or (first_held b m job p ks) (needed b m job p ks)

-- 7, 8 and 9, where `need` tiles of n need a place
abbrev pub room_for : World → ℕ → ℕ → List Refusal
room_for w need n =
    room_refusals (ltb (length w.tiles) (places_taken w.session.rule (state w).book + need)) (ltb (length w.operations) (length (state w).book.table + n))
    (ltb (free_bytes w) (operation_size * n + short_size * open_marks w.session.marks))
