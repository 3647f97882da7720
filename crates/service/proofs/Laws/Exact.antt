-- From a start and by the first rule: what 6, 7 and 0 say of the history with the operation added
use Rattle.std.specs.Prelude.{Bool, false, true, List, ◌↔◌, ◌≡◌, refl, ◌+◌, ◌<◌, ◌≤◌, ℕ, leb, length}
use Rattle.std.proofs.Math.Option.{none, some}
use Rattle.std.proofs.Common.{◌∙◌, ap₂, subst, sym, arith, leb-false, leb-true}
use Rattle.lists.specs.Truth.{never, one_if}
use Rattle.strict.specs.Book.{book_after, held_by, needs_place, places_taken, step}
use Rattle.strict.specs.Choices.{Choice}
use Rattle.strict.specs.Histories.{Event, kept, opened, operation}
use Rattle.strict.proofs.Laws.Room.{room_operation}
use Rattle.strict.proofs.Laws.Sweeping.{few_jobs}
use Rattle.strict.specs.Operations.{Op, begun}
use Rattle.strict.specs.Strict.{Log, Strict, ◌▷◌, run}
use Rattle.strict.proofs.Theorems.{held_is_exact, room_is_exact}
use Rattle.strict.specs.Tiles.{Ascending}
use Rattle.strict.specs.declared.Procedure.{Procedure}
use Rattle.strict.specs.declared.Rule.TheVariants.{Alone}
use Rattle.grid.specs.Tile.{key_of}
use Rattle.grid.specs.declared.Address.{Address}
use Rattle.service.specs.Calls.{operation_call}
use Rattle.service.specs.Claims.{Placeless, Reached, Serves, holder_in, operation_bytes}
use Rattle.service.proofs.Laws.Deciding.{accepted_told, told_seven, told_six}
use Rattle.service.specs.Sound.{Sound}
use Rattle.service.specs.World.{World, free_bytes, state, used_tiles}

-- there is no place just where the operation would need more than there are
placeless_test : (b : Bool) (n places : ℕ) → n ≤ places → ((b ≡ true) × (n ≡ places)) ↔ (places < n + one_if b)
placeless_test true n places l = (λ c. let e = c.1 in omega arith, λ g. (refl, omega arith))
placeless_test false n places l = (λ c. never (sym c.0), λ g. absurd (omega arith))

module _ (s : List ℕ) (h : Log Event) (w : World) (asc : Ascending s) (r : Reached Alone s h w) (sound : Sound w) (job sheet : ℕ) (p : Procedure) (a : Address) (k : ℕ)
    (job_is_open : opened job h ≡ true) (has_key_lem : key_of a ≡ some k) where
  abbrev added : Log Op
  added = kept s (h ▷ operation job sheet p k)

  serves : Serves w job
  serves =
      let l = few_jobs Alone s h r.admitted job job_is_open in
      record { is_sound_there = r.sound; small = omega arith; job_is_open = r.open_jobs_lem job ∙ job_is_open }

  held_iff : (holder_in w job p k ≡ none) ↔ Strict Alone s added
  held_iff =
      subst (λ q. (held_by q (state w).book job p k ≡ none) ↔ Strict Alone s added) (sym r.by_rule)
      (subst (λ m. (held_by Alone m job p k ≡ none) ↔ Strict Alone s added) (sym r.book_there) (held_is_exact s h asc r.admitted job sheet p k job_is_open))

  pub held_just : ((operation_call w job sheet p a).told.number ≡ 6) ↔ (Strict Alone s added → ⊥)
  held_just =
      let six = told_six w job sheet p a k serves has_key_lem in
      (λ e strict. six.0 e (held_iff.1 strict), λ f. six.1 (λ n. f (held_iff.0 n)))

  -- some choice needs more places than there are just where there is no place
  room_iff : holder_in w job p k ≡ none
      → ((chosen : Log Op) × Choice added chosen × (length w.tiles < length (run s chosen))) ↔ Placeless w job p k
  room_iff free =
      let m = book_after s h in
      let new = begun job p k (used_tiles w) in
      let q = w.session.rule in
      let free_there : held_by Alone m job p k ≡ none = sym (ap₂ (λ x y. held_by x y job p k) r.by_rule r.book_there) ∙ free in
      let exact = room_is_exact s (h ▷ operation job sheet p k) asc (r.admitted, job_is_open, free_there) (length w.tiles) in
      let grown = room_operation q (state w).book job sheet p k sound.tables.ascending in
      let same : places_taken Alone (step m (operation job sheet p k)) ≡ places_taken q (state w).book + one_if (needs_place q (state w).book.table new) =
      ap₂ (λ x y. places_taken x (step y (operation job sheet p k))) (sym r.by_rule) (sym r.book_there) ∙ grown in
      let test = placeless_test (needs_place q (state w).book.table new) (places_taken q (state w).book) (length w.tiles) sound.tables.room in
      (λ c. test.1 (let l = exact.0 c in omega arith), λ e. exact.1 (let l = test.0 e in omega arith))

  pub room_just : Strict Alone s added
      → ((operation_call w job sheet p a).told.number ≡ 7) ↔ ((chosen : Log Op) × Choice added chosen × (length w.tiles < length (run s chosen)))
  room_just strict =
      let free = held_iff.1 strict in
      let seven = told_seven w job sheet p a k serves has_key_lem in
      (λ e. (room_iff free).1 (seven.0 e).1, λ c. seven.1 (free, (room_iff free).0 c))

  -- no choice needs more just where there is a place
  fits_iff : holder_in w job p k ≡ none
      → (Placeless w job p k → ⊥) ↔ ((chosen : Log Op) → Choice added chosen → length (run s chosen) ≤ length w.tiles)
  fits_iff free = (
    λ f chosen c. go f chosen c (leb (length (run s chosen)) (length w.tiles)) refl,
    λ f e. let c = (room_iff free).1 e in let l = f c.0 c.1 in let g = c.2 in omega arith,
  )
    where
      go : (Placeless w job p k → ⊥) → (chosen : Log Op) → Choice added chosen → (b : Bool) → leb (length (run s chosen)) (length w.tiles) ≡ b
          → length (run s chosen) ≤ length w.tiles
      go f chosen c true q = leb-true _ _ q
      go f chosen c false q = absurd (f ((room_iff free).0 (chosen, c, leb-false _ _ q)))

  pub accepted_just : ((operation_call w job sheet p a).told.number ≡ 0)
      ↔ (Strict Alone s added
      × ((chosen : Log Op) → Choice added chosen → length (run s chosen) ≤ length w.tiles)
      × (w.session.operations < length w.operations)
      × (operation_bytes w ≤ free_bytes w))
  accepted_just =
      let zero = accepted_told w job sheet p a k serves has_key_lem in (
        λ e. let c = zero.0 e in (held_iff.0 c.0, (fits_iff c.0).0 c.1, c.2, c.3),
        λ c. let free = held_iff.1 c.0 in zero.1 (free, (fits_iff free).1 c.1, c.2, c.3),
      )
