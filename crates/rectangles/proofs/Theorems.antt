-- A RECTANGLE IN ONE CALL, by either rule
use Rattle.std.proofs.Math.Bool.{cond}
use Rattle.std.specs.Prelude.{false, true, List, ◌++◌, ◌↔◌, ◌≢◌, ◌≡◌, refl, ◌*◌, ◌+◌, ◌<◌, ◌^◌, ◌≤◌, ℕ, ◌+ℤ◌, pos, ℤ, length, take, ◌≤ℤ◌}
use Rattle.std.proofs.Math.Option.{none}
use Rattle.std.proofs.Common.{◌∙◌, subst, sym, ne_eqb}
use Rattle.std.proofs.Math.Path.{ap}
use Rattle.lists.specs.Lists.{All}
use Rattle.strict.specs.Book.{held_by}
use Rattle.strict.specs.Choices.{Choice}
use Rattle.strict.specs.Commutativity.{Signature}
use Rattle.strict.specs.Histories.{kept, opened}
use Rattle.strict.specs.Operations.{Op}
use Rattle.strict.specs.Strict.{Log, Strict, run}
use Rattle.strict.specs.Tiles.{member}
use Rattle.strict.specs.declared.Rule.TheVariants.{Alone}
use Rattle.strict.specs.declared.Rule.{Rule}
use Rattle.grid.specs.Limits.{north_edition, south_edition}
use Rattle.grid.specs.Tile.{is_edition, turns_of}
use Rattle.service.specs.Admission.{is_open, open_marks}
use Rattle.service.specs.Claims.{Keeps, Serves, sheetless_told}
use Rattle.service.specs.History.{Call, From, for_sheets, history}
use Rattle.service.proofs.Laws.Sheets.{from_alike}
use Rattle.service.specs.Limits.{job_count, last_job, operation_size, short_size}
use Rattle.service.specs.Sound.{sound_B}
use Rattle.service.specs.Told.{told_held}
use Rattle.service.proofs.Turns.{TellsTurns}
use Rattle.service.specs.World.{World, free_bytes, state, used_journal}
use Rattle.readback.specs.Claims.{records}
use Rattle.readback.specs.Extents.{extent_in, upto}
use Rattle.rebuilding.specs.Claims.{RebuildsAlone}
use Rattle.rebuilding.proofs.Demands.{replay_exact}
use Rattle.rectangles.specs.Claims.{AllDone, Apart, Before, FirstHeld, FromMoves, Inside, Misshapen, Move, Shaped, bytes_run_out, calls_of, followed, left_by, places_run_out, records_of, refusing_rectangle, slots_run_out, written}
use Rattle.rectangles.proofs.Laws.Demanding.{rectangle_accepted, rectangle_held, rectangle_room_just}
use Rattle.rectangles.proofs.Laws.Judging.{told_first, told_five, told_fourteen, told_held_lem, told_room, told_thirteen}
use Rattle.rectangles.proofs.Laws.Keeping.{all_keep, all_write}
use Rattle.rectangles.proofs.Laws.Listing.{length_sequence, span_within, within_span}
use Rattle.rectangles.proofs.Laws.Sheets.{rectangle_no_sheet, rectangle_told_alike}
use Rattle.rectangles.proofs.Laws.Tiles.{all_apart, in_order, listed_exactly}
use Rattle.rectangles.proofs.Laws.Whole.{done_shaped, moves_written, rectangle_serves, tells_turns, told_among, whole_done, whole_leaves}
use Rattle.rectangles.specs.Rectangles.{carried_all, height, keys, listed, out_of_range, procedure_for, rectangle_call, span, tile_at, width}
use Rattle.rectangles.specs.declared.Change.{Change}
use Rattle.rectangles.specs.declared.Rectangle.{Rectangle}

-- THE LIST
-- the integers from a to b are a, a + 1, and so on: span a b of them
pub span_exact : (a b c : ℤ) → ((a ≤ℤ c) × (c ≤ℤ b)) ↔ ((i : ℕ) × (i < span a b) × (c ≡ a +ℤ pos i))
span_exact a b c = (
  λ h. span_within a b c h.0 h.1,
  λ h. let w = within_span a b h.0 h.1 in
      (subst (λ x. a ≤ℤ x) (sym h.2) w.0, subst (λ x. x ≤ℤ b) (sym h.2) w.1),
)

-- every tile of the rectangle, each once, and no other
pub rectangle_lists_once : (r : Rectangle) → Shaped r
    → (length (listed r) ≡ width r * height r) × Apart (keys (listed r)) × ((k : ℕ) → (member k (keys (listed r)) ≡ true) ↔ Inside r k)
rectangle_lists_once r s = (length_sequence (tile_at r) 0 (width r * height r), all_apart r s, listed_exactly r s)

-- west to east, each column from top to bottom
pub rectangle_in_order : (r : Rectangle) → Shaped r → (i j : ℕ) → i < j → j < width r * height r → Before (tile_at r i) (tile_at r j)
rectangle_in_order r s i j l u = in_order r s i j l

-- THE CALL
module _ (w : World) (job sheet : ℕ) (change : Change) (r : Rectangle) where
  -- whole, or refused by a number of its list
  pub rectangle_refusal_changes_nothing : (rectangle_call w job sheet change r).told.number ≢ 0
      → ((rectangle_call w job sheet change r).after ≡ w) × (member (rectangle_call w job sheet change r).told.number refusing_rectangle ≡ true)
  unfolding rectangle_call
  rectangle_refusal_changes_nothing n = (
    ap (λ b. cond b (carried_all w job sheet (procedure_for change) (keys (listed r))) w) (ne_eqb (rectangle_call w job sheet change r).told.number 0 n),
    told_among w job sheet change r n,
  )

  -- where it is done it tells the turns of west and of east, and no refusal tells any
  pub rectangle_turns : TellsTurns (rectangle_call w job sheet change r).told (turns_of r.west (2 ^ r.zoom)) (turns_of r.east (2 ^ r.zoom))
  rectangle_turns = tells_turns w job sheet change r

  -- and only a hold names a sheet
  pub rectangle_sheetless : (rectangle_call w job sheet change r).told.number ≢ 6 → (rectangle_call w job sheet change r).told.sheet ≡ 0
  rectangle_sheetless = rectangle_no_sheet w job sheet change r

  -- its numbers: 1, then 2, then 3
  pub rectangle_first_three : let told = (rectangle_call w job sheet change r).told.number in
      ((told ≡ 1) ↔ (sound_B w ≡ false))
      × ((told ≡ 2) ↔ ((sound_B w ≡ true) × (last_job < job)))
      × ((told ≡ 3) ↔ ((sound_B w ≡ true) × (job ≤ last_job) × (is_open (state w) job ≡ false)))
  rectangle_first_three = told_first w job sheet change r

  -- then 14, then 5, and then 13
  pub rectangle_fourteen : ((rectangle_call w job sheet change r).told.number ≡ 14) ↔ (Serves w job × (r.edition ≢ south_edition) × (r.edition ≢ north_edition))
  rectangle_fourteen = told_fourteen w job sheet change r

  pub rectangle_five : ((rectangle_call w job sheet change r).told.number ≡ 5) ↔ (Serves w job × (is_edition r.edition ≡ true) × (out_of_range r ≡ true))
  rectangle_five = told_five w job sheet change r

  pub thirteen_exact : ((rectangle_call w job sheet change r).told.number ≡ 13)
      ↔ (Serves w job × (is_edition r.edition ≡ true) × (out_of_range r ≡ false) × Misshapen r)
  thirteen_exact = told_thirteen w job sheet change r

  -- then 6, for the first held tile in the order of the list, with the job of the first entry that holds it, and its sheet
  pub rectangle_held_first : (holder : Signature)
      → ((rectangle_call w job sheet change r).told ≡ told_held holder)
      ↔ (Serves w job × Shaped r × FirstHeld w.session.rule (state w).book job (procedure_for change) (keys (listed r)) holder)
  rectangle_held_first holder = told_held_lem w job sheet change r holder

  module _ (full : length w.session.marks ≡ job_count) where
    -- then 7, 8 or 9, lowest first, exactly when the list taken tile after tile would run out of that room, each room judged alone
    pub rectangle_room : Serves w job → Shaped r → All (λ k. held_by w.session.rule (state w).book job (procedure_for change) k ≡ none) (keys (listed r)) →
        let p = procedure_for change in
        let ks = keys (listed r) in
        let places = places_run_out w.session.rule (length w.tiles) (state w).book job sheet p ks in
        let slots = slots_run_out (length w.operations) (state w).book job sheet p ks in
        let bytes = bytes_run_out (free_bytes w) (open_marks w.session.marks) ks in
        let told = (rectangle_call w job sheet change r).told.number in
        ((told ≡ 7) ↔ (places ≡ true))
        × ((told ≡ 8) ↔ ((places ≡ false) × (slots ≡ true)))
        × ((told ≡ 9) ↔ ((places ≡ false) × (slots ≡ false) × (bytes ≡ true)))
    rectangle_room ready shaped unheld = told_room w job sheet change r ready shaped unheld full

    -- it is done exactly when its operations, called one after another, are all done, and then leaves the same
    pub rectangle_is_operations : Shaped r
        → (((rectangle_call w job sheet change r).told.number ≡ 0) ↔ AllDone w (calls_of job sheet change r))
        × ((rectangle_call w job sheet change r).told.number ≡ 0 → (rectangle_call w job sheet change r).after ≡ left_by w (calls_of job sheet change r))
    rectangle_is_operations s = (whole_done w job sheet change r full s, whole_leaves w job sheet change r full s)

    -- what it keeps, and what it writes: a record for each tile
    pub rectangle_keeps : (rectangle_call w job sheet change r).told.number ≡ 0 → Keeps w (rectangle_call w job sheet change r).after
    rectangle_keeps ok =
        let s = done_shaped w job sheet change r ok in
        let sound = (rectangle_serves w job sheet change r ok).is_sound_there in
        subst (Keeps w) (sym (whole_leaves w job sheet change r full s ok))
        (all_keep w w (calls_of job sheet change r)
        (record { still_sound = sound; same_rule = refl; all_marks = full; same_tiles = refl; same_operations = refl; same_journal = refl })
        ((whole_done w job sheet change r full s).0 ok))

    pub rectangle_writes : (rectangle_call w job sheet change r).told.number ≡ 0
        → used_journal (rectangle_call w job sheet change r).after ≡ used_journal w ++ records_of job sheet (procedure_for change) (listed r)
    rectangle_writes ok =
        let s = done_shaped w job sheet change r ok in
        ap used_journal (whole_leaves w job sheet change r full s ok) ∙ all_write job sheet change w (listed r) full ((whole_done w job sheet change r full s).0 ok)

-- FROM A START, by either rule
-- what calls with rectangles among them reach, the calls with each rectangle written out reach too
pub written_out : {by : Rule} {tiles : List ℕ} {count : ℕ} {operations journal : List ℕ} {ms : Log Move} {w : World}
    → FromMoves by tiles count operations journal ms w → From by tiles count operations journal (written ms) w
written_out f = moves_written f

-- so every demand holds of them: this one, that a journal cut anywhere, inside a rectangle too, replays to what the committed jobs did
pub moves_replay_exact : {by : Rule} {tiles : List ℕ} {count : ℕ} {operations journal : List ℕ} {ms : Log Move} {w : World}
    → FromMoves by tiles count operations journal ms w → (n : ℕ) (operations' : List ℕ) → length operations' ≡ length operations →
    let h = history (written ms) in
    RebuildsAlone (take n (used_journal w)) tiles count operations' (records (take count tiles) (upto by n h)) (extent_in by n h)
moves_replay_exact f n operations' same = replay_exact (written_out f) n operations' same

-- after histories that differ in their sheets alone it is told the same, for whatever sheet, but for the sheet that a hold names
pub rectangle_sheets_apart : {by : Rule} {tiles : List ℕ} {count : ℕ} {operations journal : List ℕ} {cs ds : Log Call} {w v : World}
    → From by tiles count operations journal cs w → From by tiles count operations journal ds v → for_sheets 0 cs ≡ for_sheets 0 ds
    → (job one other : ℕ) (change : Change) (r : Rectangle) → sheetless_told (rectangle_call w job one change r).told ≡ sheetless_told (rectangle_call v job other change r).told
rectangle_sheets_apart f g e = rectangle_told_alike (from_alike f g e)

-- BY THE FIRST RULE
-- a rectangle of an open job, that 14, 5 and 13 do not refuse, after the calls cs
module _ {tiles : List ℕ} {count : ℕ} {operations journal : List ℕ} {cs : Log Call} {w : World} (from : From Alone tiles count operations journal cs w)
    (job sheet : ℕ) (change : Change) (r : Rectangle) (job_is_open : opened job (history cs) ≡ true) (shaped : Shaped r) where
  -- the starting tiles; and the operations that the calls keep, with those of the rectangle among them
  abbrev start_tiles : List ℕ
  start_tiles = take count tiles

  abbrev with_them : Log Op
  with_them = kept start_tiles (history (followed cs (calls_of job sheet change r)))

  -- held just where the history with its operations added would not be strict
  pub rectangle_held_exact : ((rectangle_call w job sheet change r).told.number ≡ 6) ↔ (Strict Alone start_tiles with_them → ⊥)
  rectangle_held_exact = rectangle_held from job sheet change r job_is_open shaped

  -- and, where that is strict, refused for want of tile room just where some choice of the kept operations leaves more tiles than there are places
  pub rectangle_room_exact : Strict Alone start_tiles with_them
      → ((rectangle_call w job sheet change r).told.number ≡ 7) ↔ ((chosen : Log Op) × Choice with_them chosen × (length w.tiles < length (run start_tiles chosen)))
  rectangle_room_exact strict = rectangle_room_just from job sheet change r job_is_open shaped strict

  -- done just where it stays strict, no choice needs more tiles than there are places, and there are the entries' places and the bytes
  pub rectangle_accepted_exact : ((rectangle_call w job sheet change r).told.number ≡ 0)
      ↔ (Strict Alone start_tiles with_them
      × ((chosen : Log Op) → Choice with_them chosen → length (run start_tiles chosen) ≤ length w.tiles)
      × (length (state w).book.table + length (keys (listed r)) ≤ length w.operations)
      × (operation_size * length (keys (listed r)) + short_size * open_marks w.session.marks ≤ free_bytes w))
  rectangle_accepted_exact = rectangle_accepted from job sheet change r job_is_open shaped
