-- The state after a history that is taken event by event, and the worlds that hold it
use Rattle.std.specs.Prelude.{Bool, ◌&&◌, ◌||◌, cond, List, [], ◌++◌, ◌∷◌, ◌≡◌, ◌+◌, ◌≤◌, suc, zero, ℕ, ltb, get_or, length, replicate, set, take}
use Rattle.std.proofs.Math.Bool.{false, not, true}
use Rattle.std.proofs.Common.{◌∙◌, ap, ap₂, subst, sym, arith, length-append}
use Rattle.std.proofs.Math.Path.{refl}
use Rattle.std.proofs.Math.Dec.{eqb}
use Rattle.std.proofs.lemmas.List.{length-replicate}
use Rattle.std.proofs.Math.Seq.{length-sets}
use Rattle.std.proofs.lemmas.List.Edits.{sets}
use borrow.Author.Tests.{eq-eqb, le-ltb, ltb-false, not-false, not-true}
use Rattle.lists.specs.Truth.{both}
use Rattle.strict.specs.Book.{Admitted, Book, book_after, held_by, step}
use Rattle.strict.specs.Histories.{Event, abort, commit, kept, open_job, opened, operation, unfinished}
use Rattle.strict.proofs.Laws.Following.{follows}
use Rattle.strict.specs.Strict.{Log, ◌▷◌, empty}
use Rattle.strict.specs.declared.Rule.{Rule}
use Rattle.service.specs.Admission.{State, answer_on, answer_to, is_open, perform, refusals}
use Rattle.service.specs.Calls.{carried, ruled_world, start_call, start_world}
use Rattle.service.specs.Claims.{Named, Passes, Reached, tiles_after}
use Rattle.service.specs.Extents.{extent}
use Rattle.service.specs.History.{Call, From, called, event, history, started}
use Rattle.service.specs.Journal.{encode, record_of, rule_bytes}
use Rattle.service.proofs.Laws.Accepting.{carried_journal, carried_places, carried_slots, carried_sound, carried_state, left_carried, passed, passes, record_size_lem}
use Rattle.service.proofs.Laws.Soundness.{is_sound, retabled, sound_is}
use Rattle.service.proofs.Laws.Standing.{Stands, admitted_free, open_set, stands_perform}
use Rattle.service.proofs.Laws.Storing.{journal_noted, tabled_stands}
use Rattle.service.proofs.Laws.Telling.{unrefused}
use Rattle.service.specs.Limits.{job_count, last_job}
use Rattle.service.specs.Sound.{Sound, sound_B}
use Rattle.service.specs.Told.{bare, decided, refuse, refused}
use Rattle.service.specs.World.{Reported, World, state, used_journal}

abbrev pub beginning : Rule → List ℕ → State
beginning r s = record { rule = r; marks = replicate job_count false; book = record { tiles = s; table = [] } }

abbrev pub performs : Rule → List ℕ → Log Event → State
performs r s empty = beginning r s
performs r s (h ▷ e) = perform (performs r s h) e

-- each event names a job and a key, and is not refused
abbrev pub Taken : ℕ → ℕ → Rule → List ℕ → Log Event → Type 0
Taken places slots r s empty = Unit {0}
Taken places slots r s (h ▷ e) = Taken places slots r s h × Named e × (refused (refusals places slots (performs r s h) e) ≡ false)

-- the bytes of the rule, and of its records
abbrev pub written : Rule → List ℕ → Log Event → List ℕ
written r s empty = rule_bytes r
written r s (h ▷ e) = written r s h ++ encode (record_of e (answer_to (performs r s h) e))

pub length_written : (r : Rule) (s : List ℕ) (h : Log Event) → length (written r s h) ≡ extent r h
length_written r s empty = refl
length_written r s (h ▷ e) =
    length-append (written r s h) (encode (record_of e (answer_to (performs r s h) e)))
    ∙ ap₂ (λ x y. x + y) (length_written r s h) (record_size_lem e (answer_to (performs r s h) e))

pub book_is : (r : Rule) (s : List ℕ) (h : Log Event) → (performs r s h).book ≡ book_after s h
book_is r s empty = refl
book_is r s (h ▷ e) = ap (λ m. step m e) (book_is r s h)

pub rule_is : (r : Rule) (s : List ℕ) (h : Log Event) → (performs r s h).rule ≡ r
rule_is r s empty = refl
rule_is r s (h ▷ e) = rule_is r s h

none_open : (n j : ℕ) → get_or (replicate n false) j false ≡ false
none_open zero j = refl
none_open (suc n) zero = refl
none_open (suc n) (suc j) = none_open n j

opens_mark : (b : Bool) {x y : Bool} → x ≡ y → cond b true x ≡ b || y
opens_mark true e = refl
opens_mark false e = e

closes_mark : (b : Bool) {x y : Bool} → x ≡ y → cond b false x ≡ not b && y
closes_mark true e = refl
closes_mark false e = e

module _ (places slots : ℕ) (r : Rule) (s : List ℕ) (start : Stands places slots (beginning r s)) where
  pub stands : (h : Log Event) → Taken places slots r s h → Stands places slots (performs r s h)
  stands empty t = start
  stands (h ▷ e) t = stands_perform places slots (performs r s h) (stands h t.0) e t.1 t.2

  set_mark : (h : Log Event) → Taken places slots r s h → (job i : ℕ) (b : Bool) → job ≤ last_job
      → get_or (set (performs r s h).marks job b) i false ≡ cond (eqb job i) b (is_open (performs r s h) i)
  set_mark h t job i b l = let n = (stands h t).all_jobs in open_set (performs r s h).marks job i b (omega arith)

  pub marks_are : (h : Log Event) → Taken places slots r s h → (j : ℕ) → is_open (performs r s h) j ≡ opened j h
  marks_are empty t j = none_open 64 j
  marks_are (h ▷ open_job i) t j = set_mark h t.0 i j true t.1 ∙ opens_mark (eqb i j) (marks_are h t.0 j)
  marks_are (h ▷ operation i sheet p k) t j = marks_are h t.0 j
  marks_are (h ▷ commit i) t j = set_mark h t.0 i j false t.1 ∙ closes_mark (eqb i j) (marks_are h t.0 j)
  marks_are (h ▷ abort i) t j = set_mark h t.0 i j false t.1 ∙ closes_mark (eqb i j) (marks_are h t.0 j)

  pub taken_admitted : (h : Log Event) → Taken places slots r s h → Admitted r s h
  taken_admitted empty t = tt
  taken_admitted (h ▷ open_job i) t =
      let x = unrefused (refusals places slots (performs r s h) (open_job i)) t.2 in
      (taken_admitted h t.0, let l = t.1 in omega arith, sym (marks_are h t.0 i) ∙ x.0)
  taken_admitted (h ▷ operation i sheet p k) t =
      let x = unrefused (refusals places slots (performs r s h) (operation i sheet p k)) t.2 in (
        taken_admitted h t.0,
        sym (marks_are h t.0 i) ∙ not-false _ x.0,
        ap₂ (λ q m. held_by q m i p k) (sym (rule_is r s h)) (sym (book_is r s h)) ∙ (admitted_free places slots (performs r s h) i p k x.1).unheld,
      )
  taken_admitted (h ▷ commit i) t =
      let x = unrefused (refusals places slots (performs r s h) (commit i)) t.2 in
      (taken_admitted h t.0, sym (marks_are h t.0 i) ∙ not-false _ x.0)
  taken_admitted (h ▷ abort i) t =
      let x = unrefused (refusals places slots (performs r s h) (abort i)) t.2 in
      (taken_admitted h t.0, sym (marks_are h t.0 i) ∙ not-false _ x.0)

  -- the tiles are those that the kept operations leave, so the answers are the report's
  pub tiles_are : (h : Log Event) → Taken places slots r s h → (performs r s h).book.tiles ≡ tiles_after s h
  tiles_are h t = ap (λ (m : Book). m.tiles) (book_is r s h) ∙ (follows r s h start.ascending (taken_admitted h t)).tiles_run

  pub table_is : (h : Log Event) → Taken places slots r s h → (performs r s h).book.table ≡ unfinished (kept s h)
  table_is h t = ap (λ (m : Book). m.table) (book_is r s h) ∙ (follows r s h start.ascending (taken_admitted h t)).table_unfinished

  pub answer_is : (h : Log Event) → Taken places slots r s h → (e : Event) → answer_to (performs r s h) e ≡ answer_on (tiles_after s h) e
  answer_is h t e = ap (λ x. answer_on x e) (tiles_are h t)

-- WORLDS
pub record Arrived (r : Rule) (tiles : List ℕ) (count : ℕ) (operations journal : List ℕ) (h : Log Event) (w : World) : Type 0 where
  pub starts_sound : Sound (start_world r tiles count operations journal)
  pub start_stands : Stands (length tiles) (length operations) (beginning r (take count tiles))
  pub taken : Taken (length tiles) (length operations) r (take count tiles) h
  pub has_state : state w ≡ performs r (take count tiles) h
  pub is_sound_there : Sound w
  pub same_places : length w.tiles ≡ length tiles
  pub same_slots : length w.operations ≡ length operations
  pub has_journal : used_journal w ≡ written r (take count tiles) h

module _ (r : Rule) (tiles : List ℕ) (count : ℕ) (operations journal : List ℕ) where
  abbrev sound_start : Bool
  sound_start = sound_B (start_world r tiles count operations journal)

  pub start_told : eqb (start_call r tiles count operations journal).told.number 0 ≡ sound_start && not (ltb (length journal) (length (rule_bytes r)))
  unfolding start_call
  start_told = go sound_start (ltb (length journal) (length (rule_bytes r)))
    where
      go : (b c : Bool) → eqb (decided (refuse 1 (not b) ∷ refuse 9 c ∷ []) (bare 0)).number 0 ≡ b && not c
      go true true = refl
      go true false = refl
      go false c = refl

  pub start_is : sound_start ≡ true → length (rule_bytes r) ≤ length journal
      → start_call r tiles count operations journal ≡ record { told = bare 0; after = ruled_world r tiles count operations journal }
  unfolding start_call
  start_is e l = rw (e, le-ltb (length journal) (length (rule_bytes r)) l)

  arrived_start : sound_start ≡ true → length (rule_bytes r) ≤ length journal → Arrived r tiles count operations journal empty (ruled_world r tiles count operations journal)
  arrived_start e l =
      let o = sound_is (start_world r tiles count operations journal) e in
      let n : length {A = ℕ} (replicate (length operations) 0) ≡ length operations = length-replicate (length operations) 0 in
      let d = length-sets journal 0 (rule_bytes r) in
      record {
        starts_sound = o;
        start_stands = rw n at (tabled_stands (start_world r tiles count operations journal) refl o.tables);
        taken = tt;
        has_state = refl;
        is_sound_there = record {
          tables = retabled (start_world r tiles count operations journal) (0 + length (rule_bytes r)) (sets journal 0 (rule_bytes r)) o.tables;
          short_journal = let x = o.short_journal in omega arith;
          journal_fits = omega arith;
          ends_fit = omega arith;
        };
        same_places = refl;
        same_slots = n;
        has_journal = journal_noted (start_world r tiles count operations journal) (rule_bytes r) (omega arith);
      }

  arrived_next : (h : Log Event) (w : World) (e : Event) → Arrived r tiles count operations journal h w → Passes w e
      → Arrived r tiles count operations journal (h ▷ e) (carried w e)
  arrived_next h w e a p =
      let s = take count tiles in
      let N = length tiles in
      let L = length operations in
      let m : length w.session.marks ≡ job_count = ap (λ (x : State). length x.marks) a.has_state
      ∙ (stands N L r s a.start_stands h a.taken).all_jobs in
      let u : refused (refusals N L (performs r s h) e) ≡ false = rw (a.same_places, a.same_slots, a.has_state) at p.unrefused_by in
      let t : Taken N L r s (h ▷ e) = (a.taken, p.named, u) in
      let q : perform (state w) e ≡ performs r s (h ▷ e) = ap (λ x. perform x e) a.has_state in
      record {
        starts_sound = a.starts_sound;
        start_stands = a.start_stands;
        taken = t;
        has_state = carried_state w e m p ∙ q;
        is_sound_there = carried_sound w e m p;
        same_places = carried_places w e m p ∙ a.same_places;
        same_slots = carried_slots w e m p ∙ a.same_slots;
        has_journal = carried_journal w e m p ∙ ap₂ (λ x y. x ++ encode (record_of e (answer_to y e))) a.has_journal a.has_state;
      }

pub arrived : {r : Rule} {tiles : List ℕ} {count : ℕ} {operations journal : List ℕ} {cs : Log Call} {w : World}
    → From r tiles count operations journal cs w → Arrived r tiles count operations journal (history cs) w
arrived {r} {tiles} {count} {operations} {journal} (started e) =
    let o = both _ _ (sym (start_told r tiles count operations journal) ∙ eq-eqb _ 0 e) in
    let l = ltb-false (length journal) (length (rule_bytes r)) (not-true _ o.1) in
    subst (λ w. Arrived r tiles count operations journal empty w) (sym (ap (λ (x : Reported). x.after) (start_is r tiles count operations journal o.0 l)))
    (arrived_start r tiles count operations journal o.0 l)
arrived {r} {tiles} {count} {operations} {journal} (called {cs = cs} {w = w} f c ok) =
    subst (λ x. Arrived r tiles count operations journal (history cs ▷ event c) x) (sym (left_carried w c ok))
    (arrived_next r tiles count operations journal (history cs) w (event c) (arrived f) (passes w c (passed w c ok)))

pub arrived_reached : {r : Rule} {tiles : List ℕ} {count : ℕ} {operations journal : List ℕ} {h : Log Event} {w : World}
    → Arrived r tiles count operations journal h w → Reached r (take count tiles) h w
arrived_reached {r} {tiles} {count} {operations} {journal} {h} {w} a =
    let s = take count tiles in
    record {
      by_rule = ap (λ (x : State). x.rule) a.has_state ∙ rule_is r s h;
      admitted = taken_admitted _ _ r s a.start_stands h a.taken;
      open_jobs_lem = λ job. ap (λ x. is_open x job) a.has_state ∙ marks_are _ _ r s a.start_stands h a.taken job;
      book_there = ap (λ (x : State). x.book) a.has_state ∙ book_is r s h;
      sound = is_sound w a.is_sound_there;
    }
