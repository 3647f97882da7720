-- THE DEMANDS: what the journal of accepted calls says, whole or cut anywhere
use Rattle.std.specs.Prelude.{List, ◌≡◌, ℕ, length, take}
use Rattle.std.proofs.Common.{◌∙◌, ap}
use Rattle.strict.specs.Strict.{Log}
use Rattle.strict.specs.declared.Rule.{Rule}
use Rattle.service.specs.History.{Call, From, history}
use Rattle.service.specs.Journal.{rule_bytes}
use Rattle.service.proofs.Laws.Performing.{arrived}
use Rattle.service.specs.World.{World, used_journal}
use Rattle.service.specs.declared.Read.TheVariants.{End}
use Rattle.readback.specs.Claims.{Reads, Stops, records}
use Rattle.readback.specs.Extents.{extent_in, upto}
use Rattle.readback.proofs.Laws.Reading.{rule_first}
use Rattle.readback.proofs.Laws.Recovering.{cut_records, reads_back}
use Rattle.readback.specs.Reading.{read_at}

-- by either rule
module _ {r : Rule} {tiles : List ℕ} {count : ℕ} {operations journal : List ℕ} {cs : Log Call} {w : World} (from : From r tiles count operations journal cs w) where
  abbrev start_tiles : List ℕ
  start_tiles = take count tiles

  -- the used bytes, read record after record, are the calls with their answers, keys and sheets, and then the end
  pub journal_reads_back : Reads (used_journal w) 0 (records start_tiles (history cs)) (length (used_journal w))
      × (read_at (used_journal w) (length (used_journal w)) ≡ End)
  journal_reads_back = reads_back (arrived from)

  -- the journal cut after n bytes has the records of the calls whose bytes fit in n, and no other, and ends where they do
  pub cut_reads : (n : ℕ) →
      let end = extent_in r n (history cs) in
      Reads (take n (used_journal w)) 0 (records start_tiles (upto r n (history cs))) end × Stops (read_at (take n (used_journal w)) end)
  cut_reads n = cut_records (arrived from) n

  -- where a job fails as one, the rule stands in front of them; else the first record does
  pub journal_ruled : take (length (rule_bytes r)) (used_journal w) ≡ rule_bytes r
  journal_ruled = ap (take (length (rule_bytes r))) (arrived from).has_journal ∙ rule_first r start_tiles (history cs)
