use Rattle.std.proofs.Common.{◌≡◌, ◌&&◌, drop}
use Rattle.service.specs.Sound.{zeros}
use Rattle.scans.proofs.operations_clear.Given as goal

-- the flag so far and what is left to test pass just where the whole does
abbrev pub invariant-loop-e : goal.invariant-loop-e
invariant-loop-e l = zeros (drop l.from l.operations) ≡ (l.clear && zeros (drop l.e-index (drop l.from l.operations)))
