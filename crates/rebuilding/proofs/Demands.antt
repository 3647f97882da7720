-- THE DEMANDS: what a replay of the journal of accepted calls leaves, whole or cut anywhere
use Rattle.std.specs.Prelude.{List, ◌≡◌, ℕ, length, take}
use Rattle.strict.specs.Strict.{Log}
use Rattle.strict.specs.declared.Rule.{Rule}
use Rattle.service.specs.History.{Call, From, history}
use Rattle.service.proofs.Laws.Performing.{arrived}
use Rattle.service.specs.World.{World, used_journal}
use Rattle.readback.specs.Claims.{records}
use Rattle.readback.proofs.Demands.{cut_reads}
use Rattle.readback.specs.Extents.{extent_in, upto}
use Rattle.rebuilding.specs.Claims.{RebuildsAlone}
use Rattle.rebuilding.proofs.Laws.Rebuilding.{rebuilds}

-- by either rule
module _ {r : Rule} {tiles : List ℕ} {count : ℕ} {operations journal : List ℕ} {cs : Log Call} {w : World} (from : From r tiles count operations journal cs w) where
  abbrev start_tiles : List ℕ
  start_tiles = take count tiles

  -- replayed onto the starting tiles, it leaves what those of them do whose job commits among them
  pub replay_exact : (n : ℕ) (operations' : List ℕ) → length operations' ≡ length operations
      → RebuildsAlone (take n (used_journal w)) tiles count operations' (records start_tiles (upto r n (history cs))) (extent_in r n (history cs))
  replay_exact n operations' same = rebuilds (arrived from) n operations' same _ _ (cut_reads from n).0 (cut_reads from n).1
