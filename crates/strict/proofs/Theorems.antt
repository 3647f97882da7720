-- THE THEORY, in sixteen theorems. Every hypothesis speaks of the tiles and the history, and of nothing that a service says
use Rattle.std.specs.Prelude.{Bool, true, List, ◌↔◌, ◌≡◌, ◌<◌, ◌≤◌, ℕ, eqb, length}
use Rattle.std.proofs.Math.Option.{none, some}
use Rattle.std.proofs.Common.{le_trans}
use Rattle.strict.specs.Book.{Admitted, Book, CountedTiles, LeftCommitted, Roomy, Unheld, book_after, held_by, oldest_first, recover, places_taken, step, sweep}
use Rattle.strict.specs.Choices.{Choice, StrictLists}
use Rattle.strict.specs.Commutativity.{Commutes, FirstHolder, Signature, commutes, holder}
use Rattle.strict.specs.Histories.{Event, abort, kept, opened, operation, strike, unfinished}
use Rattle.strict.proofs.Laws.Counted.{counted_tiles}
use Rattle.strict.proofs.Laws.Ending.{recover_either_way}
use Rattle.strict.proofs.Laws.Exactness.{held_exactly}
use Rattle.strict.proofs.Laws.Following.{follows, follows_strict, same_book}
use Rattle.strict.proofs.Laws.Holding.{holder_first}
use Rattle.strict.proofs.Laws.Listwise.{to_lists, to_places}
use Rattle.strict.proofs.Laws.Room.{room_enough, room_exactly, roomy_fits}
use Rattle.strict.proofs.Laws.Soundness.{book_sound, step_sound, wider}
use Rattle.strict.proofs.Laws.Sweeping.{sweep_leaves}
use Rattle.strict.proofs.Laws.Table.{definition_2}
use Rattle.strict.specs.Operations.{Op, Step, kind}
use Rattle.strict.specs.Sound.{SoundTable}
use Rattle.strict.specs.Strict.{Log, Strict, ◌▷◌, in_groups, run, without}
use Rattle.strict.specs.Tiles.{Ascending}
use Rattle.strict.specs.declared.Procedure.{Procedure}
use Rattle.strict.specs.declared.Rule.TheVariants.{Alone, Together}
use Rattle.strict.specs.declared.Rule.{Rule}

-- the six by five table is Definition 2 of the report, at each of its thirty entries
pub table_exact : (p : Procedure) (found : Bool) (k : ℕ) (r : Step) (i : ℕ) → (commutes (kind p found) r (eqb k i) ≡ true) ↔ Commutes p found k r i
table_exact p found k r i = definition_2 p found k r i

-- the holder named is the first, in order of admission, that holds
pub first_holder : (r : Rule) (o : Op) (us : List Op) (by : Signature) → (holder r o us ≡ some by) ↔ FirstHolder r o us by
first_holder r o us by = holder_first r o us by

-- strict by places is strict by lists, as the report's Definition 1 words it
pub strict_by_lists : (s : List ℕ) (os : Log Op) → Strict Alone s os ↔ StrictLists s os
strict_by_lists s os = (to_lists s os, to_places s os)

-- where each operation fails alone, the recoveries of a job on a sound table may run in any order
pub either_order : (j : ℕ) (t : List ℕ) (us : List Op) → Ascending t → SoundTable Alone t us → oldest_first j us t ≡ recover j us t
either_order j t us asc sound = recover_either_way j t us t asc sound

-- on every sound table, however it came about, what the rule admits leaves a sound table
pub step_keeps_sound : (r : Rule) (m : Book) (e : Event) → SoundTable r m.tiles m.table → Unheld r m e
    → SoundTable r (step m e).tiles (step m e).table
step_keeps_sound r m e sound unheld = step_sound r m e sound unheld

-- the places counted where a job fails as one: those of the absent tiles that have an entry of kind 3, each once
pub counted_once : (t : List ℕ) (us : List Op) → CountedTiles t us
counted_once t us = counted_tiles t us

-- what is admitted where each operation fails alone is admitted where a job fails as one
pub either_admits : (s : List ℕ) (h : Log Event) → Admitted Alone s h → Admitted Together s h
either_admits s h admitted = wider s h admitted

module _ (r : Rule) (s : List ℕ) (h : Log Event) (ascending : Ascending s) (admitted : Admitted r s h) where
  -- an admitted history is strict
  pub admitted_strict : Strict r s (kept s h)
  admitted_strict = follows_strict r s h ascending admitted

  -- and leaves a sound table
  pub admitted_is_sound : SoundTable r (book_after s h).tiles (book_after s h).table
  admitted_is_sound = book_sound r s h admitted

  -- the tiles are the run of the kept operations, and the table has the unfinished ones in order
  pub book_follows : book_after s h ≡ record { tiles = run s (kept s h); table = unfinished (kept s h) }
  book_follows = same_book (follows r s h ascending admitted)

  -- an abort leaves the run without the job
  pub abort_leaves : (j : ℕ) → opened j h ≡ true → (book_after s (h ▷ abort j)).tiles ≡ run s (strike j (kept s h))
  abort_leaves j job_is_open = (follows r s (h ▷ abort j) ascending (admitted, job_is_open)).tiles_run

  -- ending all open jobs by abort leaves the committed operations alone, with the answers that they had
  pub sweep_leaves_committed : LeftCommitted (book_after s (sweep 64 h)) s (kept s h)
  sweep_leaves_committed = sweep_leaves r s h ascending admitted

  -- whatever groups are dropped, the tiles left are no more than the places taken
  pub room_is_enough : (d : ℕ → Bool) → length (run s (without (in_groups r d) (kept s h))) ≤ places_taken r (book_after s h)
  room_is_enough d = room_enough r s h ascending admitted d

  -- and so they fit N places where each operation found room in them
  pub choices_fit : (N : ℕ) → Roomy r N s h → (d : ℕ → Bool) → length (run s (without (in_groups r d) (kept s h))) ≤ N
  choices_fit N roomy d = le_trans (room_is_enough d) (roomy_fits r N s h ascending admitted roomy)

module _ (s : List ℕ) (h : Log Event) (ascending : Ascending s) (admitted : Admitted Alone s h) where
  -- an operation of an open job is not held just where the history with it is strict
  pub held_is_exact : (j sheet : ℕ) (p : Procedure) (k : ℕ) → opened j h ≡ true
      → (held_by Alone (book_after s h) j p k ≡ none) ↔ Strict Alone s (kept s (h ▷ operation j sheet p k))
  held_is_exact j sheet p k job_is_open = held_exactly s h j sheet p k ascending admitted job_is_open

  -- some choice of the kept operations leaves more than N tiles just where more than N places are taken
  pub room_is_exact : (N : ℕ) → ((chosen : Log Op) × Choice (kept s h) chosen × (N < length (run s chosen))) ↔ (N < places_taken Alone (book_after s h))
  room_is_exact N = room_exactly s h ascending admitted N
