use Rattle.std.proofs.Common.{◌≡◌, ◌&&◌, drop}
use Rattle.service.specs.Sound.{zeros}
use Rattle.scans.proofs.tiles_clear.Given as goal

-- the flag so far and what is left to test pass just where the whole does
abbrev pub invariant-loop-key : goal.invariant-loop-key
invariant-loop-key l = zeros l.places ≡ (l.clear && zeros (drop l.key-index l.places))
