-- A rectangle of calls from a start by the first rule: held, tile room and acceptance, exactly
use Rattle.std.specs.Prelude.{Bool, false, true, List, [], ◌∷◌, ◌↔◌, ◌≡◌, refl, ◌*◌, ◌+◌, ◌<◌, ◌≤◌, ℕ, leb, length, take}
use Rattle.std.proofs.Math.Option.{none}
use Rattle.std.proofs.Common.{◌∙◌, ap, ap₂, subst, sym, arith, leb-false, leb-true, lt-ltb, ltb-true}
use Rattle.lists.specs.Lists.{All}
use Rattle.strict.specs.Book.{Book, book_after, held_by, places_taken}
use Rattle.strict.specs.Choices.{Choice}
use Rattle.strict.specs.Histories.{Event, kept, opened}
use Rattle.strict.proofs.Laws.Sweeping.{few_jobs}
use Rattle.strict.specs.Operations.{Op}
use Rattle.strict.specs.Strict.{Log, Strict, run}
use Rattle.strict.proofs.Theorems.{room_is_exact}
use Rattle.strict.specs.Tiles.{Ascending}
use Rattle.strict.specs.declared.Procedure.{Procedure}
use Rattle.strict.specs.declared.Rule.TheVariants.{Alone}
use Rattle.strict.specs.declared.Rule.{Rule}
use Rattle.grid.specs.declared.Address.{Address}
use Rattle.service.specs.Admission.{open_marks}
use Rattle.service.specs.Claims.{Reached, Serves}
use Rattle.service.proofs.Demands.{all_marks, reached}
use Rattle.service.specs.History.{Call, From, history}
use Rattle.service.proofs.Laws.Performing.{arrived}
use Rattle.service.proofs.Laws.Soundness.{sound_is}
use Rattle.service.specs.Limits.{operation_size, short_size}
use Rattle.service.specs.World.{World, free_bytes, state}
use Rattle.rectangles.specs.Claims.{Shaped, calls_of, followed, operations}
use Rattle.rectangles.proofs.Laws.Histories.{all_admitted, free_strict, taken_all, with_all}
use Rattle.rectangles.proofs.Laws.Judging.{held_none, none_held, told_room, told_six}
use Rattle.rectangles.proofs.Laws.Running.{places_run_out_lem}
use Rattle.rectangles.proofs.Laws.Tiles.{all_apart}
use Rattle.rectangles.proofs.Laws.Whole.{fits_passed, passed_fits}
use Rattle.rectangles.specs.Rectangles.{first_held, keys, listed, needed, procedure_for, rectangle_call}
use Rattle.rectangles.specs.declared.Change.{Change}
use Rattle.rectangles.specs.declared.Rectangle.{Rectangle}

history_followed : (job sheet : ℕ) (p : Procedure) (cs : Log Call) (xs : List Address) → with_all (history cs) job sheet p (keys xs) ≡ history (followed cs (operations job sheet p xs))
history_followed job sheet p cs [] = refl
history_followed job sheet p cs (a ∷ xs) = history_followed job sheet p _ xs

module _ {tiles : List ℕ} {count : ℕ} {lent journal : List ℕ} {cs : Log Call} {w : World} (from : From Alone tiles count lent journal cs w) (job sheet : ℕ) (change : Change) (r : Rectangle)
    (job_is_open : opened job (history cs) ≡ true) (shaped : Shaped r) where
  abbrev s : List ℕ
  s = take count tiles

  abbrev h : Log Event
  h = history cs

  abbrev p : Procedure
  p = procedure_for change

  abbrev ks : List ℕ
  ks = keys (listed r)

  there : Reached Alone (take count tiles) (history cs) w
  there = reached from

  by_alone : w.session.rule ≡ Alone
  by_alone = there.by_rule

  -- what is said of the session's book by its rule, said of the history's by the first, and back
  of_history : (P : Rule → Book → Type 0) → P w.session.rule (state w).book → P Alone (book_after s h)
  of_history P x = subst (P Alone) there.book_there (subst (λ b. P b (state w).book) by_alone x)

  of_session : (P : Rule → Book → Type 0) → P Alone (book_after s h) → P w.session.rule (state w).book
  of_session P x = subst (λ b. P b (state w).book) (sym by_alone) (subst (P Alone) (sym there.book_there) x)

  abbrev Unheld : Rule → Book → Type 0
  Unheld b x = All (λ k. held_by b x job p k ≡ none) ks

  asc : Ascending (take count tiles)
  asc = (arrived from).start_stands.ascending

  ready : Serves w job
  ready = let l = few_jobs Alone s h there.admitted job job_is_open in record { is_sound_there = there.sound; small = omega arith; job_is_open = there.open_jobs_lem job ∙ job_is_open }

  abbrev added : Log Op
  added = kept s (history (followed cs (calls_of job sheet change r)))

  abbrev N : ℕ
  N = length w.tiles

  free_iff : (first_held w.session.rule (state w).book job p ks ≡ none) ↔ Strict Alone s added
  free_iff =
      let m = (state w).book in
      let f = free_strict s job sheet p asc h ks there.admitted job_is_open (all_apart r shaped) in
      let q : kept s (with_all h job sheet p ks) ≡ added = ap (kept s) (history_followed job sheet p cs (listed r)) in (
        λ e. subst (Strict Alone s) q (f.0 (of_history Unheld (held_none w.session.rule m job p ks e))),
        λ strict. none_held w.session.rule m job p ks (of_session Unheld (f.1 (subst (Strict Alone s) (sym q) strict))),
      )

  pub rectangle_held : ((rectangle_call w job sheet change r).told.number ≡ 6) ↔ (Strict Alone s added → ⊥)
  rectangle_held =
      let six = told_six w job sheet change r in
      (λ e strict. (six.0 e).2 (free_iff.1 strict), λ f. six.1 (ready, shaped, λ e. f (free_iff.0 e)))

  -- some choice leaves more than N tiles just where more than N places are taken
  room_iff : Strict Alone s added
      → ((chosen : Log Op) × Choice added chosen × (N < length (run s chosen))) ↔ (N < places_taken w.session.rule (state w).book + needed w.session.rule (state w).book job p ks)
  room_iff strict =
      let m = (state w).book in
      let free = held_none w.session.rule m job p ks (free_iff.1 strict) in
      let free_there = of_history Unheld free in
      let admitted = all_admitted s job sheet p asc h ks there.admitted job_is_open (all_apart r shaped) free_there in
      let exact = room_is_exact s (with_all h job sheet p ks) asc admitted N in
      let q : kept s (with_all h job sheet p ks) ≡ added = ap (kept s) (history_followed job sheet p cs (listed r)) in
      let up : Ascending (book_after s h).tiles = subst (λ (x : Book). Ascending x.tiles) there.book_there (sound_is w there.sound).tables.ascending in
      let grown : places_taken Alone (book_after s (with_all h job sheet p ks)) ≡ places_taken w.session.rule m + needed w.session.rule m job p ks =
      taken_all s job sheet p asc h ks (all_apart r shaped) up ∙ ap₂ (λ b (x : Book). places_taken b x + needed b x job p ks) (sym by_alone) (sym there.book_there) in
      let e : ((chosen : Log Op) × Choice added chosen × (N < length (run s chosen))) ↔ (N < places_taken Alone (book_after s (with_all h job sheet p ks))) =
      subst (λ l. ((chosen : Log Op) × Choice l chosen × (N < length (run s chosen))) ↔ (N < places_taken Alone (book_after s (with_all h job sheet p ks)))) q exact in
      (λ c. let l = e.0 c in omega arith, λ l. e.1 (omega arith))

  pub rectangle_room_just : Strict Alone s added
      → ((rectangle_call w job sheet change r).told.number ≡ 7) ↔ ((chosen : Log Op) × Choice added chosen × (N < length (run s chosen)))
  rectangle_room_just strict =
      let m = (state w).book in
      let free = held_none w.session.rule m job p ks (free_iff.1 strict) in
      let room = (told_room w job sheet change r ready shaped free (all_marks from)).0 in
      let o = sound_is w there.sound in
      let out = places_run_out_lem w.session.rule job sheet p N ks m (all_apart r shaped) o.tables.ascending o.tables.room in
      let iff = room_iff strict in (
        λ e. iff.1 (ltb-true _ _ (sym out ∙ room.0 e)),
        λ c. room.1 (out ∙ lt-ltb _ _ (iff.0 c)),
      )

  fits_iff : Strict Alone s added
      → (places_taken w.session.rule (state w).book + needed w.session.rule (state w).book job p ks ≤ N) ↔ ((chosen : Log Op) → Choice added chosen → length (run s chosen) ≤ N)
  fits_iff strict = (
    λ l chosen c. go chosen c l (leb (length (run s chosen)) N) refl,
    λ f. by f (leb (places_taken w.session.rule (state w).book + needed w.session.rule (state w).book job p ks) N) refl,
  )
    where
      go : (chosen : Log Op) → Choice added chosen → places_taken w.session.rule (state w).book + needed w.session.rule (state w).book job p ks ≤ N
          → (b : Bool) → leb (length (run s chosen)) N ≡ b → length (run s chosen) ≤ N
      go chosen c l true q = leb-true _ _ q
      go chosen c l false q = let g = (room_iff strict).0 (chosen, c, leb-false _ _ q) in absurd (omega arith)

      by : ((chosen : Log Op) → Choice added chosen → length (run s chosen) ≤ N)
          → (b : Bool) → leb (places_taken w.session.rule (state w).book + needed w.session.rule (state w).book job p ks) N ≡ b → places_taken w.session.rule (state w).book + needed w.session.rule (state w).book job p ks ≤ N
      by f true q = leb-true _ _ q
      by f false q = let c = (room_iff strict).1 (leb-false _ _ q) in let l = f c.0 c.1 in let g = c.2 in absurd (omega arith)

  pub rectangle_accepted : ((rectangle_call w job sheet change r).told.number ≡ 0)
      ↔ (Strict Alone s added
      × ((chosen : Log Op) → Choice added chosen → length (run s chosen) ≤ N)
      × (length (state w).book.table + length ks ≤ length w.operations)
      × (operation_size * length ks + short_size * open_marks w.session.marks ≤ free_bytes w))
  rectangle_accepted = (
    λ e. let f = passed_fits w job sheet change r e in let strict = free_iff.0 f.unheld in (strict, (fits_iff strict).0 f.places, f.slots, f.bytes),
    λ c. fits_passed w job sheet change r shaped
        (record { ready = ready; unheld = free_iff.1 c.0; places = (fits_iff c.0).1 c.1; slots = c.2; bytes = c.3 }),
  )
