-- a sum is a remainder
use Rattle.std.proofs.Common.{◌<◌}
use Rattle.looks.proofs.checksum.sum_with.Given as goal

abbrev pub invariant-loop-x : goal.invariant-loop-x
invariant-loop-x g l = l.sum < 4294967291
