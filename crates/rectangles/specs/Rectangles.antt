-- Rectangles of tiles, and the call that inserts or deletes all tiles of one
use Rattle.std.specs.Prelude.{Bool, ◌||◌, cond, not, List, [], ◌++◌, ◌∷◌, map, ◌%◌, ◌*◌, ◌+◌, ◌-◌, ◌/◌, ◌^◌, suc, zero, ℕ, eqb, ltb, ◌+ℤ◌, negsuc, pos, ℤ, length}
use Rattle.std.proofs.Math.Option.{Option, none, some}
use Rattle.lists.specs.Truth.{one_if}
use Rattle.strict.specs.Book.{Book, held_by, needs_place, places_taken}
use Rattle.strict.specs.Commutativity.{Signature}
use Rattle.strict.specs.Histories.{operation}
use Rattle.strict.specs.Operations.{begun}
use Rattle.strict.specs.declared.Procedure.TheVariants.{Del, Ins}
use Rattle.strict.specs.declared.Procedure.{Procedure}
use Rattle.strict.specs.declared.Rule.{Rule}
use Rattle.grid.specs.Limits.{north_edition}
use Rattle.grid.specs.Tile.{address_call, address_of, is_edition, north_row, turns_of}
use Rattle.grid.specs.declared.Address.{Address}
use Rattle.service.specs.Admission.{open_marks}
use Rattle.service.specs.Calls.{carried, end_refusals}
use Rattle.service.specs.Limits.{operation_size, short_size}
use Rattle.service.specs.Told.{Refusal, decided, refuse, refuse_held}
use Rattle.service.specs.World.{Reported, World, free_bytes, state}
use Rattle.service.specs.declared.Told.{Told}
use Rattle.rectangles.specs.declared.Change.TheVariants.{Delete, Insert}
use Rattle.rectangles.specs.declared.Change.{Change}
use Rattle.rectangles.specs.declared.Rectangle.{Rectangle}

-- THE LIST
-- how many integers there are from a to b: b - a + 1, and none where that is below 0
abbrev pub span : ℤ → ℤ → ℕ
span (pos a) (pos b) = suc b - a
span (pos a) (negsuc b) = 0
span (negsuc a) (pos b) = suc a + suc b
span (negsuc a) (negsuc b) = suc a - b

abbrev pub width : Rectangle → ℕ
width r = span r.west r.east

-- its rows, counted from the north
abbrev pub top_row : Rectangle → ℤ
top_row r = north_row r.edition r.zoom r.top

abbrev pub bottom_row : Rectangle → ℤ
bottom_row r = north_row r.edition r.zoom r.bottom

abbrev pub height : Rectangle → ℕ
height r = span (top_row r) (bottom_row r)

abbrev pub area : Rectangle → ℕ
area r = width r * height r

-- f i, f (i + 1), and so on: n of them
abbrev pub sequence : {A : Type 0} → (ℕ → A) → ℕ → ℕ → List A
sequence f i zero = []
sequence f i (suc n) = f i ∷ sequence f (suc i) n

-- west to east, each column from top to bottom
abbrev pub tile_at : Rectangle → ℕ → Address
tile_at r i = address_of north_edition r.zoom (r.west +ℤ pos (i / height r)) (top_row r +ℤ pos (i % height r))

abbrev pub listed : Rectangle → List Address
listed r = sequence (tile_at r) 0 (area r)

abbrev pub key_for : Address → ℕ
key_for a = (address_call a).key

abbrev pub keys : List Address → List ℕ
keys xs = map key_for xs

-- 14: there is no such edition
abbrev pub misnamed : Rectangle → Bool
misnamed r = not (is_edition r.edition)

-- 5: the zoom or one of the two rows is not in its range, so that the address step refuses a corner
abbrev pub unplaced : Address → Bool
unplaced a = not (eqb (address_call a).number 0)

abbrev pub first_corner : Rectangle → Address
first_corner r = address_of r.edition r.zoom r.west r.top

abbrev pub last_corner : Rectangle → Address
last_corner r = address_of r.edition r.zoom r.east r.bottom

abbrev pub out_of_range : Rectangle → Bool
out_of_range r = unplaced (first_corner r) || unplaced (last_corner r)

-- 13: empty, wider than the level, or of too many tiles
abbrev pub most_in_rectangle : ℕ
most_in_rectangle = 256

abbrev pub misshapen : Rectangle → Bool
misshapen r = eqb (width r) 0 || (eqb (height r) 0 || (ltb (2 ^ r.zoom) (width r) || ltb most_in_rectangle (area r)))

-- THE CALL
abbrev pub procedure_for : Change → Procedure
procedure_for Insert = Ins
procedure_for Delete = Del

-- 6: the holder of the first tile of the list that is held
abbrev pub first_of : Option Signature → Option Signature → Option Signature
first_of (some by) o = some by
first_of none o = o

abbrev pub first_held : Rule → Book → ℕ → Procedure → List ℕ → Option Signature
first_held rule m job p [] = none
first_held rule m job p (k ∷ ks) = first_of (held_by rule m job p k) (first_held rule m job p ks)

-- how many tiles of the list need a place
abbrev pub needed : Rule → Book → ℕ → Procedure → List ℕ → ℕ
needed rule m job p [] = 0
needed rule m job p (k ∷ ks) = one_if (needs_place rule m.table (begun job p k m.tiles)) + needed rule m job p ks

-- 7: more than are free; 8: the list is longer than the free operation places; 9: there are fewer bytes than a record a tile, and one for each open job, take
abbrev pub few_places : World → ℕ → Procedure → List ℕ → Bool
few_places w job p ks = ltb (length w.tiles) (places_taken w.session.rule (state w).book + needed w.session.rule (state w).book job p ks)

abbrev pub few_slots : World → List ℕ → Bool
few_slots w ks = ltb (length w.operations) (length (state w).book.table + length ks)

abbrev pub few_bytes : World → List ℕ → Bool
few_bytes w ks = ltb (free_bytes w) (operation_size * length ks + short_size * open_marks w.session.marks)

abbrev pub room_refusals : Bool → Bool → Bool → List Refusal
room_refusals places slots bytes = refuse 7 places ∷ refuse 8 slots ∷ refuse 9 bytes ∷ []

-- 6, 7, 8 and 9, for a list of keys
abbrev pub list_refusals : World → ℕ → Procedure → List ℕ → List Refusal
list_refusals w job p ks = refuse_held (first_held w.session.rule (state w).book job p ks) ∷ room_refusals (few_places w job p ks) (few_slots w ks) (few_bytes w ks)

-- 14, 5 and 13
abbrev pub shape_refusals : Rectangle → List Refusal
shape_refusals r = refuse 14 (misnamed r) ∷ refuse 5 (out_of_range r) ∷ refuse 13 (misshapen r) ∷ []

abbrev pub rectangle_refusals : World → ℕ → Procedure → Rectangle → List Refusal
rectangle_refusals w job p r = end_refusals w job ++ shape_refusals r ++ list_refusals w job p (keys (listed r))

-- the operations of a list of keys, carried out one after another, with a record each
abbrev pub carried_all : World → ℕ → ℕ → Procedure → List ℕ → World
carried_all w job sheet p [] = w
carried_all w job sheet p (k ∷ ks) = carried_all (carried w (operation job sheet p k)) job sheet p ks

-- 0, with the turns of the first column and of the last
abbrev pub covered : Rectangle → Told
covered r = record { number = 0; answer = 0; holder = 0; sheet = 0; turns = turns_of r.west (2 ^ r.zoom); last = turns_of r.east (2 ^ r.zoom) }

-- whole or refused
unfoldable pub rectangle_call : World → ℕ → ℕ → Change → Rectangle → Reported
rectangle_call w job sheet change r =
    let p : Procedure = procedure_for change in
    let t : Told = decided (rectangle_refusals w job p r) (covered r) in
    record { told = t; after = cond (eqb t.number 0) (carried_all w job sheet p (keys (listed r))) w }
