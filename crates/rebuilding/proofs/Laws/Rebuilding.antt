-- A cut journal of accepted calls, replayed onto the starting tiles
use Rattle.std.specs.Prelude.{false, List, ◌++◌, ◌≡◌, refl, ◌≤◌, ℕ, length, replicate, take}
use Rattle.std.proofs.Common.{◌∙◌, ap, subst, sym, arith, length-take, length-take-le}
use Rattle.lists.specs.Lists.{padded}
use Rattle.strict.specs.Histories.{Event, committed, kept}
use Rattle.strict.specs.Strict.{Log, run}
use Rattle.strict.specs.declared.Rule.{Rule}
use Rattle.service.specs.Admission.{open_marks}
use Rattle.service.specs.Extents.{extent}
use Rattle.service.proofs.Laws.Performing.{Arrived, Taken, answer_is, beginning, performs, written}
use Rattle.service.proofs.Laws.Standing.{Stands}
use Rattle.service.specs.World.{World, used_journal}
use Rattle.service.specs.declared.Record.{Record}
use Rattle.readback.specs.Claims.{Reads, Stops}
use Rattle.readback.proofs.Laws.Either.{stands_either}
use Rattle.readback.proofs.Laws.Reading.{part, read_tail, reads_all}
use Rattle.readback.specs.Reading.{read_at}
use Rattle.rebuilding.specs.Claims.{AsRecorded, RebuildsAlone, lasting, marks_from, run_alone}
use Rattle.rebuilding.proofs.Laws.Lasting.{alone_committed, marks_records, reads_once, recorded_committed}
use Rattle.rebuilding.proofs.Laws.Replaying.{answers_left, halts, replays, rolled_back_is}
use Rattle.rebuilding.specs.Replay.{halt, replay_call, rolled_back}

module _ {r : Rule} {tiles : List ℕ} {count : ℕ} {operations journal : List ℕ} {h₀ : Log Event} {w : World} (there : Arrived r tiles count operations journal h₀ w) where
  abbrev start_tiles : List ℕ
  start_tiles = take count tiles

  pub rebuilds : (n : ℕ) (operations' : List ℕ) → length operations' ≡ length operations
      → (rs : List Record) (end : ℕ) → Reads (take n (used_journal w)) 0 rs end → Stops (read_at (take n (used_journal w)) end)
      → RebuildsAlone (take n (used_journal w)) tiles count operations' rs end
  rebuilds n operations' same rs end reads stops =
      let s = start_tiles in
      let sp = part r s n h₀ in
      let q = sp.by in
      let h = sp.events in
      let N = length tiles in
      let L = length operations' in
      let t₀ = sp.taken_part N (length operations) there.taken in
      let t : Taken N L q s h = subst (λ x. Taken N x q s h) (sym same) t₀ in
      let start : Stands N L (beginning q s) = subst (λ x. Stands N x (beginning q s)) (sym same) (stands_either r q N (length operations) s there.start_stands) in
      let j : take n (used_journal w) ≡ written q s h ++ sp.tail = ap (take n) there.has_journal ∙ sp.is_part in
      let short : length (written q s h ++ sp.tail) ≤ 65536 =
      let a = ap length j in
      let b = simp length-take at a in
      let d = length-take-le w.session.journal w.journal there.is_sound_there.journal_fits in
      let e = there.is_sound_there.short_journal in
      let f = there.is_sound_there.journal_fits in
      omega arith in
      let reads' : Reads (written q s h ++ sp.tail) 0 rs end = subst (λ x. Reads x 0 rs end) j reads in
      let stops' : Stops (read_at (written q s h ++ sp.tail) end) = subst (λ x. Stops (read_at x end)) j stops in
      let mine = reads_all N L q s h sp.tail t (answer_is N L q s start) in
      let stop = subst Stops (sym (read_tail q s h sp.tail)) sp.stops in
      let one_way = reads_once refl mine stop reads' stops' in
      let replayed : replay_call (take n (used_journal w)) tiles count operations' ≡ rolled_back N L (halt 0 (extent q h) (performs q s h)) =
      ap (λ x. replay_call x tiles count operations') j
      ∙ replays r tiles count operations journal operations' same there.starts_sound (written q s h ++ sp.tail) short
      ∙ ap (rolled_back N L) (halts N L q s h t sp.tail sp.stops) in
      let tiles_same : run s (committed (kept s h)) ≡ run_alone s (lasting rs) = sym (alone_committed s h)
      ∙ ap (λ x. run_alone s (lasting x)) one_way.0 in
      let marks_same : (performs q s h).marks ≡ marks_from (replicate 64 false) rs = sym (marks_records q s h)
      ∙ ap (marks_from (replicate 64 false)) one_way.0 in (
        replayed ∙ rolled_back_is N L q s start h t
            ∙ (λ i. record {
              number = 0;
              offset = one_way.1 i;
              undone = open_marks (marks_same i);
              count = length (tiles_same i);
              tiles = padded N (tiles_same i);
              operations = replicate L 0;
            }),
        subst (λ x. AsRecorded s (lasting x)) one_way.0 (recorded_committed s h (answers_left N L q s start h t)),
      )
