-- The replay of any journal, whoever wrote it: what it leaves are the committed operations of the records that it took
use Rattle.std.specs.Prelude.{Bool, ◌&&◌, ◌||◌, not, List, [], ◌++◌, ◌∷◌, map, ◌≢◌, ◌≡◌, eqb, length, replicate, take}
use Rattle.std.proofs.Math.Bool.{beq, cond, false, true}
use Rattle.std.proofs.Common.{◌∙◌, ap, ap₂, subst, sym, arith}
use Rattle.std.proofs.Math.Path.{refl}
use Prim.Native.Nat.{suc, zero, ℕ}
use Rattle.lists.specs.Lists.{padded}
use Rattle.lists.specs.Truth.{same_bool}
use Rattle.strict.specs.Histories.{Event, committed, kept}
use Rattle.strict.specs.Strict.{Log, ◌▷◌, empty, run}
use Rattle.strict.specs.declared.Rule.TheVariants.{Alone, Together}
use Rattle.strict.specs.declared.Rule.{Rule}
use Rattle.service.specs.Admission.{State, answer_on, answer_to, ended, marks_after, open_marks, perform, refusals}
use Rattle.service.specs.Claims.{tiles_after}
use Rattle.service.specs.Journal.{record_of}
use Rattle.service.proofs.Laws.Performing.{Taken, answer_is, beginning, performs}
use Rattle.service.proofs.Laws.Standing.{Stands}
use Rattle.service.specs.Limits.{job_count}
use Rattle.service.specs.Told.{refused}
use Rattle.service.specs.World.{World, state}
use Rattle.service.specs.declared.Read.TheVariants.{Cut, End, Malformed, Ruled, Whole}
use Rattle.service.specs.declared.Read.{Read}
use Rattle.service.specs.declared.Record.TheVariants.{Abort, Commit, Open, Performed, Sheeted}
use Rattle.service.specs.declared.Record.{Record}
use Rattle.readback.specs.Claims.{Reads, more, past, records, stay}
use Rattle.readback.proofs.Laws.Either.{stands_either}
use Rattle.readback.specs.Reading.{read_at}
use Rattle.rebuilding.specs.Claims.{AsRecorded, Leaves, commits, lasting, marks_from, run_alone}
use Rattle.rebuilding.proofs.Laws.Halting.{begins, named_read, replay_is, stands_there, started_so, tells_stop}
use Rattle.rebuilding.proofs.Laws.Lasting.{alone_committed, marks_records, recorded_committed}
use Rattle.rebuilding.proofs.Laws.Replaying.{answers_left, left_is}
use Rattle.rebuilding.proofs.Laws.Ruling.{past_whole, rule_place}
use Rattle.rebuilding.specs.Replay.{Halt, Rebuilt, answer_of, event_of, halt, replay_call, rolled_back, ruled, stopped, taking, turn}

-- THE FORM OF A RECORD: as a session writes it now
abbrev today : Record → Record
today (Open job) = Open job
today (Performed o) = Sheeted o 0
today (Sheeted o sheet) = Sheeted o sheet
today (Commit job) = Commit job
today (Abort job) = Abort job

today_event : (r : Record) → event_of (today r) ≡ event_of r
today_event (Open job) = refl
today_event (Performed o) = refl
today_event (Sheeted o sheet) = refl
today_event (Commit job) = refl
today_event (Abort job) = refl

today_is : (r : Record) (a : Bool) → answer_of r ≡ a → today r ≡ record_of (event_of r) a
today_is (Open job) a e = refl
today_is (Performed o) a e = λ i. Sheeted (record { job = o.job; procedure = o.procedure; answer = e i; key = o.key }) 0
today_is (Sheeted o sheet) a e = λ i. Sheeted (record { job = o.job; procedure = o.procedure; answer = e i; key = o.key }) sheet
today_is (Commit job) a e = refl
today_is (Abort job) a e = refl

commits_today : (job : ℕ) (rs : List Record) → commits job (map today rs) ≡ commits job rs
commits_today job [] = refl
commits_today job (Open i ∷ rs) = commits_today job rs
commits_today job (Performed o ∷ rs) = commits_today job rs
commits_today job (Sheeted o sheet ∷ rs) = commits_today job rs
commits_today job (Commit i ∷ rs) = ap (λ b. eqb i job || b) (commits_today job rs)
commits_today job (Abort i ∷ rs) = ap (λ b. not (eqb i job) && b) (commits_today job rs)

lasting_today : (rs : List Record) → lasting (map today rs) ≡ lasting rs
lasting_today [] = refl
lasting_today (Open i ∷ rs) = lasting_today rs
lasting_today (Performed o ∷ rs) = ap₂ (λ b l. cond b (o ∷ l) l) (commits_today o.job rs) (lasting_today rs)
lasting_today (Sheeted o sheet ∷ rs) = ap₂ (λ b l. cond b (o ∷ l) l) (commits_today o.job rs) (lasting_today rs)
lasting_today (Commit i ∷ rs) = lasting_today rs
lasting_today (Abort i ∷ rs) = lasting_today rs

marks_today : (ms : List Bool) (rs : List Record) → marks_from ms (map today rs) ≡ marks_from ms rs
marks_today ms [] = refl
marks_today ms (r ∷ rs) = ap (λ e. marks_from (marks_after ms e) (map today rs)) (today_event r) ∙ marks_today (marks_after ms (event_of r)) rs

today_last : (rs : List Record) (r : Record) → map today (rs ++ (r ∷ [])) ≡ map today rs ++ (today r ∷ [])
today_last [] r = refl
today_last (x ∷ rs) r = ap (λ l. today x ∷ l) (today_last rs r)

-- READING ON
reads_more : {j : List ℕ} {a b next : ℕ} {rs : List Record} {r : Record} → Reads j a rs b → read_at j b ≡ Whole r next → Reads j a (rs ++ (r ∷ [])) next
reads_more stay e = more e stay
reads_more (more f z) e = more f (reads_more z e)
reads_more (past f z) e = past f (reads_more z e)

reads_past : {j : List ℕ} {a b next : ℕ} {rs : List Record} → Reads j a rs b → read_at j b ≡ Ruled next → Reads j a rs next
reads_past stay e = past e stay
reads_past (more f z) e = more f (reads_past z e)
reads_past (past f z) e = past f (reads_past z e)

-- ALONG A REPLAY: the events that were taken, and the records in which they were found
module _ (places slots : ℕ) (j : List ℕ) (s : List ℕ) (start : Stands places slots (beginning Alone s)) where
  record Along (at : ℕ) (x : State) : Type 0 where
    by : Rule
    events : Log Event
    were_taken : Taken places slots by s events
    is_there : x ≡ performs by s events
    found : List Record
    were_read : Reads j 0 found at
    as_today : map today found ≡ records s events
    at_first : at ≡ 0 → events ≡ empty

  on : (at : ℕ) (x : State) (a : Along at x) (r : Record) (next : ℕ) → read_at j at ≡ Whole r next → refused (refusals places slots x (event_of r)) ≡ false
      → answer_of r ≡ answer_to x (event_of r) → Along next (perform x (event_of r))
  on at x a r next e free right =
      let h = a.events in
      let q = a.by in
      let answered : answer_of r ≡ answer_on (tiles_after s h) (event_of r) =
      right ∙ ap (λ y. answer_to y (event_of r)) a.is_there ∙ answer_is places slots q s (stands_either Alone q places slots s start) h a.were_taken (event_of r) in
      record {
        by = q;
        events = h ▷ event_of r;
        were_taken = (a.were_taken, named_read j at r next e, sym (ap (λ y. refused (refusals places slots y (event_of r))) a.is_there) ∙ free);
        is_there = ap (λ y. perform y (event_of r)) a.is_there;
        found = a.found ++ (r ∷ []);
        were_read = reads_more a.were_read e;
        as_today = today_last a.found r ∙ ap₂ (λ l y. l ++ (y ∷ [])) a.as_today (today_is r _ answered);
        at_first = λ z. let l = past_whole j at r next e in absurd (omega arith);
      }

  on_rule : (at : ℕ) (x : State) (a : Along at x) (next : ℕ) → read_at j at ≡ Ruled next → Along next (ruled x)
  on_rule at x a next e =
      let none_yet = a.at_first (rule_place j at next e).0 in
      record {
        by = Together;
        events = empty;
        were_taken = tt;
        is_there = ap ruled (a.is_there ∙ ap (performs a.by s) none_yet);
        found = a.found;
        were_read = reads_past a.were_read e;
        as_today = a.as_today ∙ ap (records s) none_yet;
        at_first = λ z. refl;
      }

  along : (n at : ℕ) (x : State) → Along at x → let h = taking n places slots j at x in Along h.offset h.reached
  unfolding taking
  along zero at x a = a
  along (suc n) at x a = go (read_at j at) refl (along n)
    where
      go : (rd : Read) → read_at j at ≡ rd
          → ((at : ℕ) (x : State) → Along at x → Along (taking n places slots j at x).offset (taking n places slots j at x).reached)
          → let h = turn places slots at x rd (λ next s'. taking n places slots j next s') in Along h.offset h.reached
      go End e ih = a
      go Cut e ih = a
      go Malformed e ih = a
      go (Ruled next) e ih = ih next (ruled x) (on_rule at x a next e)
      go (Whole r next) e ih = judged (refused (refusals places slots x (event_of r))) refl (beq (answer_of r) (answer_to x (event_of r))) refl
        where
          judged : (b : Bool) → refused (refusals places slots x (event_of r)) ≡ b → (c : Bool) → beq (answer_of r) (answer_to x (event_of r)) ≡ c
              → let h = cond b (halt 11 at x) (cond c (taking n places slots j next (perform x (event_of r))) (halt 12 at x)) in Along h.offset h.reached
          judged true p c q = a
          judged false p false q = a
          judged false p true q = ih next (perform x (event_of r)) (on at x a r next e p (same_bool (answer_of r) (answer_to x (event_of r)) q))

  -- what is left there when the open jobs are aborted
  left_there : (h : Halt) → Along h.offset h.reached → (rs : List Record) × Leaves j s places slots (rolled_back places slots h) rs
  left_there h a =
      let q = a.by in
      let es = a.events in
      let start' = stands_either Alone q places slots s start in
      let alone : run s (committed (kept s es)) ≡ run_alone s (lasting a.found) =
      sym (alone_committed s es) ∙ ap (λ l. run_alone s (lasting l)) (sym a.as_today) ∙ ap (run_alone s) (lasting_today a.found) in
      let left : (ended job_count h.reached).book.tiles ≡ run_alone s (lasting a.found) =
      ap (λ x. (ended job_count x).book.tiles) a.is_there ∙ left_is places slots q s start' es a.were_taken ∙ alone in
      let marks : h.reached.marks ≡ marks_from (replicate job_count false) a.found =
      ap (λ (x : State). x.marks) a.is_there ∙ sym (marks_records q s es) ∙ ap (marks_from (replicate job_count false)) (sym a.as_today)
      ∙ marks_today (replicate job_count false) a.found in
      let recorded : AsRecorded s (lasting a.found) =
      subst (AsRecorded s) (ap lasting (sym a.as_today) ∙ lasting_today a.found) (recorded_committed s es (answers_left places slots q s start' es a.were_taken)) in (
        a.found,
        record {
          reads_them = a.were_read;
          undoes_open = ap open_marks marks;
          counts_left = ap length left;
          leaves_tiles = ap (padded places) left;
          leaves_no_entry = refl;
          as_recorded = recorded;
        },
      )

module _ (journal tiles : List ℕ) (count : ℕ) (operations : List ℕ) (n : (replay_call journal tiles count operations).number ≢ 1) where
  begun_so : begins journal tiles count operations ≡ true
  begun_so = go (begins journal tiles count operations) refl
    where
      go : (b : Bool) → begins journal tiles count operations ≡ b → begins journal tiles count operations ≡ true
      go true e = e
      go false e = absurd (n (ap (λ (r : Rebuilt). r.number) (replay_is journal tiles count operations false e)))

  pub replay_left : (rs : List Record) × Leaves journal (take count tiles) (length tiles) (length operations) (replay_call journal tiles count operations) rs
  replay_left =
      let s = take count tiles in
      let N = length tiles in
      let L = length operations in
      let stands : Stands N L (beginning Alone s) = stands_there journal tiles count operations begun_so in
      let is : stopped journal tiles count operations ≡ taking (length journal) N L journal 0 (beginning Alone s) =
      ap (λ (w : World). taking (length journal) N L journal 0 (state w)) (started_so journal tiles count operations begun_so) in
      let first : Along N L journal s stands 0 (beginning Alone s) =
      record { by = Alone; events = empty; were_taken = tt; is_there = refl; found = []; were_read = stay; as_today = refl; at_first = λ z. refl } in
      let there = left_there N L journal s stands (taking (length journal) N L journal 0 (beginning Alone s)) (along N L journal s stands (length journal) 0 (beginning Alone s) first) in
      subst (λ x. (rs : List Record) × Leaves journal s N L x rs) (sym (tells_stop journal tiles count operations n ∙ ap (rolled_back N L) is)) there
