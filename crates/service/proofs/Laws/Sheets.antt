-- Worlds that differ in their sheets alone, and what is told there
use Rattle.std.specs.Prelude.{Bool, ◌&&◌, cond, false, not, true, List, [], ◌∷◌, map, ◌≢◌, ◌≡◌, refl, ◌*◌, ◌+◌, ◌-◌, ℕ, eqb, ltb, get_or, length, take}
use Rattle.std.proofs.Math.Option.{Option, none, some}
use Rattle.std.proofs.Common.{◌∙◌, ap, arith, length-take-le}
use Rattle.std.proofs.Math.Path.{ap₂, sym}
use Rattle.std.proofs.lemmas.List.{length-map}
use Rattle.std.proofs.Math.Seq.{length-sets}
use Rattle.lists.specs.Lists.{All}
use Rattle.strict.specs.Book.{held_by, needs_place, places_taken}
use Rattle.strict.specs.Commutativity.{Signature}
use Rattle.strict.specs.Histories.{Event, abort, commit, open_job, operation}
use Rattle.strict.proofs.Laws.Sheets.{held_sheetless, needs_sheetless, taken_sheetless, step_sheetless}
use Rattle.strict.specs.Operations.{begun}
use Rattle.strict.specs.Sheets.{sheetless, sheetless_book, sheetless_by, sheetless_event, sheetless_history}
use Rattle.strict.specs.Strict.{Log, ◌▷◌, empty}
use Rattle.strict.specs.declared.Procedure.{Procedure}
use Rattle.strict.specs.declared.Rule.{Rule}
use Rattle.grid.specs.Tile.{address_call}
use Rattle.service.specs.Admission.{State, answer_to, open_marks, perform}
use Rattle.service.specs.Calls.{concluded, empty_session, ruled_world, start_call, start_refusals}
use Rattle.service.specs.Claims.{holder_in, sheetless_told}
use Rattle.service.specs.Extents.{extent, record_size}
use Rattle.service.specs.Journal.{encode, record_of, rule_bytes}
use Rattle.service.specs.History.{Call, From, aborting, call, called, committing, event, for_sheet, for_sheets, history, opening, operating, refusals_of, started, turns_by}
use Rattle.service.proofs.Laws.Accepting.{left_carried}
use Rattle.service.proofs.Laws.Performing.{Arrived, arrived, length_written, performs}
use Rattle.service.proofs.Laws.Soundness.{is_sound}
use Rattle.service.specs.Limits.{last_job, operation_size, short_size}
use Rattle.service.specs.Sound.{sound_B}
use Rattle.service.specs.Told.{Refusal, bare, decided, done, refuse, refuse_held}
use Rattle.service.specs.World.{World, free_bytes, state, used_tiles, world}
use Rattle.service.specs.declared.Told.{Told}

-- WITHOUT THE SHEETS
abbrev pub sheetless_state : State → State
sheetless_state s = record { rule = s.rule; marks = s.marks; book = sheetless_book s.book }

event_sheetless : (c : Call) → event (for_sheet 0 c) ≡ sheetless_event (event c)
event_sheetless (opening job) = refl
event_sheetless (committing job) = refl
event_sheetless (aborting job) = refl
event_sheetless (operating job sheet p a) = refl

history_sheetless : (cs : Log Call) → history (for_sheets 0 cs) ≡ sheetless_history (history cs)
history_sheetless empty = refl
history_sheetless (cs ▷ c) = ap₂ {C = Log Event} (λ h e. h ▷ e) (history_sheetless cs) (event_sheetless c)

perform_sheetless : (s : State) (e : Event) → perform (sheetless_state s) (sheetless_event e) ≡ sheetless_state (perform s e)
perform_sheetless s (open_job j) = refl
perform_sheetless s (operation j sheet p k) = ap (λ m. record { rule = s.rule; marks = s.marks; book = m }) (step_sheetless s.book (operation j sheet p k))
perform_sheetless s (commit j) = ap (λ m. record { rule = s.rule; marks = (perform s (commit j)).marks; book = m }) (step_sheetless s.book (commit j))
perform_sheetless s (abort j) = ap (λ m. record { rule = s.rule; marks = (perform s (abort j)).marks; book = m }) (step_sheetless s.book (abort j))

performs_sheetless : (r : Rule) (s : List ℕ) (h : Log Event) → performs r s (sheetless_history h) ≡ sheetless_state (performs r s h)
performs_sheetless r s empty = refl
performs_sheetless r s (h ▷ e) = ap (λ x. perform x (sheetless_event e)) (performs_sheetless r s h) ∙ perform_sheetless (performs r s h) e

size_sheetless : (e : Event) → record_size (sheetless_event e) ≡ record_size e
size_sheetless (open_job j) = refl
size_sheetless (operation j sheet p k) = refl
size_sheetless (commit j) = refl
size_sheetless (abort j) = refl

extent_sheetless : (r : Rule) (h : Log Event) → extent r (sheetless_history h) ≡ extent r h
extent_sheetless r empty = refl
extent_sheetless r (h ▷ e) = ap₂ (λ x y. x + y) (extent_sheetless r h) (size_sheetless e)

-- ALIKE
pub record Alike (w v : World) : Type 0 where
  pub same_sound : sound_B w ≡ sound_B v
  pub same_state : sheetless_state (state w) ≡ sheetless_state (state v)
  pub same_places : length w.tiles ≡ length v.tiles
  pub same_slots : length w.operations ≡ length v.operations
  pub same_free : free_bytes w ≡ free_bytes v
  pub same_tiles : used_tiles w ≡ used_tiles v

-- the journal keeps its length
journal_length : {r : Rule} {tiles : List ℕ} {count : ℕ} {operations journal : List ℕ} {cs : Log Call} {w : World}
    → From r tiles count operations journal cs w → length w.journal ≡ length journal
unfolding start_call
journal_length {r} {tiles} {count} {operations} {journal} (started e) = go (eqb (decided (start_refusals r tiles count operations journal) (bare 0)).number 0)
  where
    go : (b : Bool) → length (cond b (ruled_world r tiles count operations journal) (world empty_session tiles operations journal)).journal ≡ length journal
    go true = length-sets journal 0 (rule_bytes r)
    go false = refl
journal_length (called {w = w} f c ok) =
    ap (λ (x : World). length x.journal) (left_carried w c ok)
    ∙ length-sets w.journal w.session.journal (encode (record_of (event c) (answer_to (state w) (event c))))
    ∙ journal_length f

module _ {r : Rule} {tiles : List ℕ} {count : ℕ} {operations journal : List ℕ} {cs ds : Log Call} {w v : World}
    (f : From r tiles count operations journal cs w) (g : From r tiles count operations journal ds v) (e : for_sheets 0 cs ≡ for_sheets 0 ds) where
  abbrev s : List ℕ
  s = take count tiles

  abbrev a : Arrived r tiles count operations journal (history cs) w
  a = arrived f

  abbrev b : Arrived r tiles count operations journal (history ds) v
  b = arrived g

  same_history : sheetless_history (history cs) ≡ sheetless_history (history ds)
  same_history = sym (history_sheetless cs) ∙ ap history e ∙ history_sheetless ds

  states : sheetless_state (state w) ≡ sheetless_state (state v)
  states =
      ap sheetless_state a.has_state ∙ sym (performs_sheetless r s (history cs)) ∙ ap (performs r s) same_history
      ∙ performs_sheetless r s (history ds) ∙ ap sheetless_state (sym b.has_state)

  used_bytes : (hs : Log Call) (x : World) → Arrived r tiles count operations journal (history hs) x → x.session.journal ≡ extent r (sheetless_history (history hs))
  used_bytes hs x there =
      sym (length-take-le x.session.journal x.journal there.is_sound_there.journal_fits)
      ∙ ap length there.has_journal ∙ length_written r s (history hs) ∙ sym (extent_sheetless r (history hs))

  pub from_alike : Alike w v
  from_alike =
      record {
        same_sound = is_sound w a.is_sound_there ∙ sym (is_sound v b.is_sound_there);
        same_state = states;
        same_places = a.same_places ∙ sym b.same_places;
        same_slots = a.same_slots ∙ sym b.same_slots;
        same_free = ap₂ (λ x y. x - y) (journal_length f ∙ sym (journal_length g)) (used_bytes cs w a ∙ ap (extent r) same_history ∙ sym (used_bytes ds v b));
        same_tiles = ap (λ (x : State). x.book.tiles) states;
      }

-- WHAT IS TOLD
abbrev pub sheetless_refusal : Refusal → Refusal
sheetless_refusal x = record { applies = x.applies; says = sheetless_told x.says }

pub decided_sheetless : (rs : List Refusal) (t : Told) → sheetless_told (decided rs t) ≡ decided (map sheetless_refusal rs) (sheetless_told t)
decided_sheetless [] t = refl
decided_sheetless (x ∷ rs) t = go x.applies (decided_sheetless rs t)
  where
    go : (b : Bool) → sheetless_told (decided rs t) ≡ decided (map sheetless_refusal rs) (sheetless_told t)
        → sheetless_told (cond b x.says (decided rs t)) ≡ cond b (sheetless_told x.says) (decided (map sheetless_refusal rs) (sheetless_told t))
    go true h = refl
    go false h = h

pub hold_sheetless : (o : Option Signature) → sheetless_refusal (refuse_held o) ≡ refuse_held (sheetless_by o)
hold_sheetless none = refl
hold_sheetless (some by) = refl

module _ {w v : World} (alike : Alike w v) where
  pub marks : w.session.marks ≡ v.session.marks
  marks = ap (λ (x : State). x.marks) alike.same_state

  -- the four that look at the book
  module _ (job : ℕ) (p : Procedure) (k : ℕ) where
    held : sheetless_refusal (refuse_held (held_by w.session.rule (state w).book job p k)) ≡ sheetless_refusal (refuse_held (held_by v.session.rule (state v).book job p k))
    held =
        hold_sheetless (held_by w.session.rule (state w).book job p k) ∙ ap refuse_held (held_sheetless w.session.rule (state w).book job p k)
        ∙ ap (λ (x : State). refuse_held (held_by x.rule x.book job p k)) alike.same_state
        ∙ sym (hold_sheetless (held_by v.session.rule (state v).book job p k) ∙ ap refuse_held (held_sheetless v.session.rule (state v).book job p k))

    abbrev full : State → ℕ → Bool
    full x places = needs_place x.rule x.book.table (begun job p k x.book.tiles) && eqb (places_taken x.rule x.book) places

    full_sheetless : (x : State) (places : ℕ) → full (sheetless_state x) places ≡ full x places
    full_sheetless x places =
        ap₂ (λ y n. y && eqb n places) (needs_sheetless x.rule x.book.table (begun job p k x.book.tiles)) (taken_sheetless x.rule x.book)

    same_full : full (state w) (length w.tiles) ≡ full (state v) (length v.tiles)
    same_full = sym (full_sheetless (state w) (length w.tiles)) ∙ ap₂ full alike.same_state alike.same_places ∙ full_sheetless (state v) (length v.tiles)

  pub long : length (state w).book.table ≡ length (state v).book.table
  long =
      sym (length-map (state w).book.table sheetless) ∙ ap (λ (x : State). length x.book.table) alike.same_state ∙ length-map (state v).book.table sheetless

  same_refusals : (c : Call) (sheet : ℕ) → map sheetless_refusal (refusals_of w c) ≡ map sheetless_refusal (refusals_of v (for_sheet sheet c))
  same_refusals (opening job) sheet = λ i.
      refuse 1 (not (alike.same_sound i)) ∷ refuse 2 (ltb last_job job) ∷ refuse 4 (get_or (marks i) job false)
      ∷ refuse 9 (ltb (alike.same_free i) (short_size + short_size * (open_marks (marks i) + 1))) ∷ []
  same_refusals (committing job) sheet = λ i. refuse 1 (not (alike.same_sound i)) ∷ refuse 2 (ltb last_job job) ∷ refuse 3 (not (get_or (marks i) job false)) ∷ []
  same_refusals (aborting job) sheet = λ i. refuse 1 (not (alike.same_sound i)) ∷ refuse 2 (ltb last_job job) ∷ refuse 3 (not (get_or (marks i) job false)) ∷ []
  same_refusals (operating job own p a) sheet = λ i.
      refuse 1 (not (alike.same_sound i)) ∷ refuse 2 (ltb last_job job) ∷ refuse 3 (not (get_or (marks i) job false))
      ∷ refuse 14 (eqb (address_call a).number 14) ∷ refuse 5 (eqb (address_call a).number 5)
      ∷ held job p (address_call a).key i ∷ refuse 7 (same_full job p (address_call a).key i) ∷ refuse 8 (eqb (long i) (alike.same_slots i))
      ∷ refuse 9 (ltb (alike.same_free i) (operation_size + short_size * open_marks (marks i))) ∷ []

  same_answer : (c : Call) (sheet : ℕ) → done (answer_to (state w) (event c)) (turns_by c) ≡ done (answer_to (state v) (event (for_sheet sheet c))) (turns_by (for_sheet sheet c))
  same_answer (opening job) sheet = refl
  same_answer (committing job) sheet = refl
  same_answer (aborting job) sheet = refl
  same_answer (operating job own p a) sheet = ap (λ t. done (answer_to (record { rule = v.session.rule; marks = v.session.marks; book = record { tiles = t; table = [] } }) (operation job sheet p (address_call a).key)) (address_call a).turns) alike.same_tiles

  pub told_alike : (c : Call) (sheet : ℕ) → sheetless_told (call w c).told ≡ sheetless_told (call v (for_sheet sheet c)).told
  unfolding concluded
  told_alike c sheet =
      decided_sheetless (refusals_of w c) _ ∙ ap₂ decided (same_refusals c sheet) (ap sheetless_told (same_answer c sheet)) ∙ sym (decided_sheetless (refusals_of v (for_sheet sheet c)) _)

-- WHO NAMES A SHEET
-- a refusal that has none, unless it is a hold
abbrev pub Sheetless : Refusal → Type 0
Sheetless x = x.says.number ≢ 6 → x.says.sheet ≡ 0

pub hold_or_sheetless : (o : Option Signature) → Sheetless (refuse_held o)
hold_or_sheetless none n = refl
hold_or_sheetless (some by) n = absurd (n refl)

-- what every refusal says, and what is told otherwise, is so of what is told
pub decided_so : (P : Told → Type 0) (rs : List Refusal) (t : Told) → All (λ x. P x.says) rs → P t → P (decided rs t)
decided_so P [] t h z = z
decided_so P (x ∷ rs) t h z = go x.applies (decided_so P rs t h.1 z)
  where
    go : (b : Bool) → P (decided rs t) → P (cond b x.says (decided rs t))
    go true ih = h.0
    go false ih = ih

pub decided_no_sheet : (rs : List Refusal) (t : Told) → All Sheetless rs → t.sheet ≡ 0 → (decided rs t).number ≢ 6 → (decided rs t).sheet ≡ 0
decided_no_sheet rs t h z = decided_so (λ x. x.number ≢ 6 → x.sheet ≡ 0) rs t h (λ n. z)

all_sheetless : (w : World) (c : Call) → All Sheetless (refusals_of w c)
all_sheetless w (opening job) = (λ n. refl, (λ n. refl, (λ n. refl, (λ n. refl, tt))))
all_sheetless w (committing job) = (λ n. refl, (λ n. refl, (λ n. refl, tt)))
all_sheetless w (aborting job) = (λ n. refl, (λ n. refl, (λ n. refl, tt)))
all_sheetless w (operating job sheet p a) =
    (λ n. refl, (λ n. refl, (λ n. refl, (λ n. refl, (λ n. refl, (hold_or_sheetless (holder_in w job p (address_call a).key), (λ n. refl, (λ n. refl, (λ n. refl, tt)))))))))

pub no_sheet : (w : World) (c : Call) → (call w c).told.number ≢ 6 → (call w c).told.sheet ≡ 0
unfolding concluded
no_sheet w c = decided_no_sheet (refusals_of w c) (done (answer_to (state w) (event c)) (turns_by c)) (all_sheetless w c) refl

-- WHAT IS ACCEPTED
abbrev called_for : Call → ℕ
called_for (opening job) = 0
called_for (committing job) = 0
called_for (aborting job) = 0
called_for (operating job sheet p a) = sheet

for_last : (c : Call) (one other : ℕ) → for_sheet one c ≡ for_sheet one (for_sheet other c)
for_last (opening job) one other = refl
for_last (committing job) one other = refl
for_last (aborting job) one other = refl
for_last (operating job sheet p a) one other = refl

for_own : (c : Call) → for_sheet (called_for c) (for_sheet 0 c) ≡ c
for_own (opening job) = refl
for_own (committing job) = refl
for_own (aborting job) = refl
for_own (operating job sheet p a) = refl

abbrev before : Log Call → Log Call
before empty = empty
before (cs ▷ c) = cs

abbrev latest : Call → Log Call → Call
latest otherwise empty = otherwise
latest otherwise (cs ▷ c) = c

abbrev begins : Log Call → ℕ
begins empty = 0
begins (cs ▷ c) = 1

pub accepted_alike : {r : Rule} {tiles : List ℕ} {count : ℕ} {operations journal : List ℕ} {cs : Log Call} {w : World}
    → From r tiles count operations journal cs w → (ds : Log Call) → for_sheets 0 cs ≡ for_sheets 0 ds → (v : World) × From r tiles count operations journal ds v
accepted_alike {r} {tiles} {count} {operations} {journal} (started e) empty eq = ((start_call r tiles count operations journal).after, started e)
accepted_alike (started e) (ds ▷ d) eq = let z : ◌≡◌ {A = ℕ} 0 1 = ap begins eq in absurd (omega (arith, z))
accepted_alike (called f c ok) empty eq = let z : ◌≡◌ {A = ℕ} 1 0 = ap begins eq in absurd (omega (arith, z))
accepted_alike (called {cs = cs} {w = w} f c ok) (ds ▷ d) eq =
    let rest = accepted_alike f ds (ap before eq) in
    let same : for_sheet (called_for d) c ≡ d = for_last c (called_for d) 0 ∙ ap (λ x. for_sheet (called_for d) (latest c x)) eq ∙ for_own d in
    let told = told_alike (from_alike f rest.1 (ap before eq)) c (called_for d) in
    let number : (call rest.0 d).told.number ≡ 0 =
    ap (λ x. (call rest.0 x).told.number) (sym same) ∙ sym (ap (λ (t : Told). t.number) told) ∙ ok in
    ((call rest.0 d).after, called rest.1 d number)
