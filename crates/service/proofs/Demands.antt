-- THE DEMANDS: what accepted calls from a start lead to. Each speaks of the definitions that the calls promise to keep, and so of the calls
use Rattle.std.specs.Prelude.{Bool, true, List, map, ◌↔◌, ◌≡◌, ◌<◌, ◌≤◌, ℕ, length, take}
use Rattle.std.proofs.Math.Option.{some}
use Rattle.std.proofs.Common.{◌∙◌, ap, ap₂, subst, arith}
use Rattle.strict.specs.Book.{places_taken}
use Rattle.strict.specs.Choices.{Choice}
use Rattle.strict.specs.Histories.{kept, opened, operation, unfinished}
use Rattle.strict.specs.Operations.{Op}
use Rattle.strict.specs.Strict.{Log, Strict, ◌▷◌, in_groups, run, without}
use Rattle.strict.proofs.Theorems.{admitted_strict, room_is_enough}
use Rattle.strict.specs.declared.Procedure.{Procedure}
use Rattle.strict.specs.declared.Rule.TheVariants.{Alone}
use Rattle.strict.specs.declared.Rule.{Rule}
use Rattle.grid.specs.Tile.{key_of}
use Rattle.grid.specs.declared.Address.{Address}
use Rattle.service.specs.Admission.{State, answer_on, answer_to}
use Rattle.service.specs.Calls.{operation_call}
use Rattle.service.specs.Claims.{Reached, operation_bytes, tiles_after}
use Rattle.service.specs.Entry.{op_in}
use Rattle.service.specs.History.{Call, From, call, event, history, turns_by}
use Rattle.service.proofs.Laws.Accepting.{told_done}
use Rattle.service.proofs.Laws.Exact.{accepted_just, held_just, room_just}
use Rattle.service.proofs.Laws.Performing.{Arrived, answer_is, arrived, arrived_reached, stands, table_is, tiles_are}
use Rattle.service.specs.Limits.{job_count}
use Rattle.service.specs.Told.{done}
use Rattle.service.specs.World.{World, free_bytes, used_operations, used_tiles}

-- by either rule
module _ {r : Rule} {tiles : List ℕ} {count : ℕ} {operations journal : List ℕ} {cs : Log Call} {w : World} (from : From r tiles count operations journal cs w) where
  abbrev start_tiles : List ℕ
  start_tiles = take count tiles

  there : Arrived r tiles count operations journal (history cs) w
  there = arrived from

  -- the session follows the history
  pub reached : Reached r start_tiles (history cs) w
  reached = arrived_reached there

  -- which is strict, and every choice of what fails as one leaves tiles that fit the table
  pub stays_strict : Strict r start_tiles (kept start_tiles (history cs))
  stays_strict = admitted_strict r start_tiles (history cs) there.start_stands.ascending reached.admitted

  pub stays_fitting : (d : ℕ → Bool) → length (run start_tiles (without (in_groups r d) (kept start_tiles (history cs)))) ≤ length tiles
  stays_fitting d =
      let a = room_is_enough r start_tiles (history cs) there.start_stands.ascending reached.admitted d in
      let b = there.is_sound_there.tables.room in
      let c = ap₂ (λ q m. places_taken q m) reached.by_rule reached.book_there in
      let e = there.same_places in
      omega arith

  -- every job has its mark, and the tables keep their lengths
  pub all_marks : length w.session.marks ≡ job_count
  all_marks =
      ap (λ (x : State). length x.marks) there.has_state
      ∙ (stands (length tiles) (length operations) r start_tiles there.start_stands (history cs) there.taken).all_jobs

  pub same_lengths : (length w.tiles ≡ length tiles) × (length w.operations ≡ length operations)
  same_lengths = (there.same_places, there.same_slots)

  -- accepted calls give the report's answers and effects
  pub answers : (c : Call) → (call w c).told.number ≡ 0 → (call w c).told ≡ done (answer_on (tiles_after start_tiles (history cs)) (event c)) (turns_by c)
  answers c ok =
      told_done w c ok
      ∙ ap (λ x. done (answer_to x (event c)) (turns_by c)) there.has_state
      ∙ ap (λ b. done b (turns_by c)) (answer_is _ _ r start_tiles there.start_stands (history cs) there.taken (event c))

  pub effects : (used_tiles w ≡ tiles_after start_tiles (history cs)) × (map op_in (used_operations w) ≡ unfinished (kept start_tiles (history cs)))
  effects = (
    ap (λ (x : State). x.book.tiles) there.has_state ∙ tiles_are _ _ r start_tiles there.start_stands (history cs) there.taken,
    ap (λ (x : State). x.book.table) there.has_state ∙ table_is _ _ r start_tiles there.start_stands (history cs) there.taken,
  )

-- by the first rule
module _ {tiles : List ℕ} {count : ℕ} {operations journal : List ℕ} {cs : Log Call} {w : World} (from : From Alone tiles count operations journal cs w) where
  -- the starting tiles; and the operations that the calls keep, with a new one among them
  abbrev first_tiles : List ℕ
  first_tiles = take count tiles

  abbrev with_it : ℕ → ℕ → Procedure → ℕ → Log Op
  with_it job sheet p k = kept first_tiles (history cs ▷ operation job sheet p k)

  there_first : Arrived Alone tiles count operations journal (history cs) w
  there_first = arrived from

  reached_first : Reached Alone first_tiles (history cs) w
  reached_first = arrived_reached there_first

  -- an operation of an open job on an address with a key: held just where the history with it added would not be strict
  pub held_exact : (job sheet : ℕ) (p : Procedure) (a : Address) (k : ℕ) → opened job (history cs) ≡ true → key_of a ≡ some k
      → ((operation_call w job sheet p a).told.number ≡ 6) ↔ (Strict Alone first_tiles (with_it job sheet p k) → ⊥)
  held_exact job sheet p a k o e =
      held_just first_tiles (history cs) w there_first.start_stands.ascending reached_first there_first.is_sound_there job sheet p a k o e

  -- and, where that is strict, refused for want of tile room just where some way of keeping or dropping the unfinished operations,
  -- it among them, needs more tiles than the table has
  pub room_exact : (job sheet : ℕ) (p : Procedure) (a : Address) (k : ℕ) → opened job (history cs) ≡ true → key_of a ≡ some k
      → Strict Alone first_tiles (with_it job sheet p k)
      → ((operation_call w job sheet p a).told.number ≡ 7)
      ↔ ((chosen : Log Op) × Choice (with_it job sheet p k) chosen × (length tiles < length (run first_tiles chosen)))
  room_exact job sheet p a k o e strict =
      subst
      (λ N.
      ((operation_call w job sheet p a).told.number ≡ 7)
      ↔ ((chosen : Log Op) × Choice (with_it job sheet p k) chosen × (N < length (run first_tiles chosen))))
      there_first.same_places
      (room_just first_tiles (history cs) w there_first.start_stands.ascending reached_first there_first.is_sound_there job sheet p a k o e strict)

  -- accepted just where it stays strict, no such way needs more tiles than the table has, and there is an entry's place and the bytes
  pub accepted_exact : (job sheet : ℕ) (p : Procedure) (a : Address) (k : ℕ) → opened job (history cs) ≡ true → key_of a ≡ some k
      → ((operation_call w job sheet p a).told.number ≡ 0)
      ↔ (Strict Alone first_tiles (with_it job sheet p k)
      × ((chosen : Log Op) → Choice (with_it job sheet p k) chosen → length (run first_tiles chosen) ≤ length tiles)
      × (w.session.operations < length w.operations)
      × (operation_bytes w ≤ free_bytes w))
  accepted_exact job sheet p a k o e =
      subst
      (λ N.
      ((operation_call w job sheet p a).told.number ≡ 0)
      ↔ (Strict Alone first_tiles (with_it job sheet p k)
      × ((chosen : Log Op) → Choice (with_it job sheet p k) chosen → length (run first_tiles chosen) ≤ N)
      × (w.session.operations < length w.operations)
      × (operation_bytes w ≤ free_bytes w)))
      there_first.same_places
      (accepted_just first_tiles (history cs) w there_first.start_stands.ascending reached_first there_first.is_sound_there job sheet p a k o e)
