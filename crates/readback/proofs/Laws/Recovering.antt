-- The journal of accepted calls, whole and cut: which records are read there
use Rattle.std.specs.Prelude.{List, [], ◌++◌, ◌≡◌, ℕ, length, take}
use Rattle.std.proofs.Common.{append-nil, ◌∙◌, ap, subst, sym}
use Rattle.strict.specs.Histories.{Event}
use Rattle.strict.specs.Strict.{Log}
use Rattle.strict.specs.declared.Rule.{Rule}
use Rattle.service.specs.Extents.{extent}
use Rattle.service.proofs.Laws.Performing.{Arrived, answer_is, length_written, written}
use Rattle.service.specs.World.{World, used_journal}
use Rattle.service.specs.declared.Read.TheVariants.{End}
use Rattle.readback.specs.Claims.{Reads, Stops, records}
use Rattle.readback.specs.Extents.{extent_in, upto}
use Rattle.readback.proofs.Laws.Either.{stands_either}
use Rattle.readback.proofs.Laws.Reading.{part, read_tail, reads_all}
use Rattle.readback.specs.Reading.{read_at}

module _ {r : Rule} {tiles : List ℕ} {count : ℕ} {operations journal : List ℕ} {h₀ : Log Event} {w : World} (there : Arrived r tiles count operations journal h₀ w) where
  abbrev start_tiles : List ℕ
  start_tiles = take count tiles

  -- the used bytes are the records of the history, and then the end
  pub reads_back : Reads (used_journal w) 0 (records start_tiles h₀) (length (used_journal w)) × (read_at (used_journal w) (length (used_journal w)) ≡ End)
  reads_back =
      let s = start_tiles in
      let j : used_journal w ≡ written r s h₀ ++ [] = there.has_journal ∙ sym (append-nil (written r s h₀)) in
      let n : length (used_journal w) ≡ extent r h₀ = ap length there.has_journal ∙ length_written r s h₀ in (
        subst (λ m. Reads (used_journal w) 0 (records s h₀) m) (sym n)
            (subst (λ x. Reads x 0 (records s h₀) (extent r h₀)) (sym j)
            (reads_all (length tiles) (length operations) r s h₀ [] there.taken (answer_is (length tiles) (length operations) r s there.start_stands))),
        ap (read_at (used_journal w)) n ∙ ap (λ x. read_at x (extent r h₀)) j ∙ read_tail r s h₀ [],
      )

  -- a cut has the whole records of the first calls, and then stops
  pub cut_records : (n : ℕ) →
      let end = extent_in r n h₀ in
      Reads (take n (used_journal w)) 0 (records start_tiles (upto r n h₀)) end × Stops (read_at (take n (used_journal w)) end)
  cut_records n =
      let s = start_tiles in
      let sp = part r s n h₀ in
      let q = sp.by in
      let h = sp.events in
      let t = sp.taken_part (length tiles) (length operations) there.taken in
      let start = stands_either r q (length tiles) (length operations) s there.start_stands in
      let j : take n (used_journal w) ≡ written q s h ++ sp.tail = ap (take n) there.has_journal ∙ sp.is_part in
      let reads : Reads (take n (used_journal w)) 0 (records s h) (extent q h) =
      subst (λ x. Reads x 0 (records s h) (extent q h)) (sym j) (reads_all (length tiles) (length operations) q s h sp.tail t (answer_is (length tiles) (length operations) q s start)) in
      let stops : Stops (read_at (take n (used_journal w)) (extent q h)) =
      subst (λ x. Stops (read_at x (extent q h))) (sym j) (subst Stops (sym (read_tail q s h sp.tail)) sp.stops) in (
        subst (λ x. Reads (take n (used_journal w)) 0 (records s x) (extent_in r n h₀)) sp.those_whole
            (subst (λ x. Reads (take n (used_journal w)) 0 (records s h) x) sp.up_to reads),
        subst (λ x. Stops (read_at (take n (used_journal w)) x)) sp.up_to stops,
      )
