use Rattle.std.proofs.Common.{◌≡◌, drop}
use Rattle.scans.specs.Tests.{sorted_keys}
use Rattle.scans.proofs.Passes.{keys_from}
use Rattle.scans.proofs.keys_ascend.Given as goal

-- what is left to test, from above the last key, passes just where the whole does
abbrev pub invariant-loop-key : goal.invariant-loop-key
invariant-loop-key l = sorted_keys l.keys ≡ keys_from l.last (drop l.key-index l.keys)
