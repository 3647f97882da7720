use Rattle.std.proofs.Common.{◌≡◌, ◌&&◌, drop}
use Rattle.filter.specs.Filter.{elsewhere}
use Rattle.settling.proofs.tile_free.Given as goal

-- the flag so far and what is left to test pass just where the whole does
abbrev pub invariant-loop-e : goal.invariant-loop-e
invariant-loop-e l = elsewhere l.key l.entries ≡ (l.free && elsewhere l.key (drop l.e-index l.entries))
