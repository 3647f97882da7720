use Rattle.std.proofs.Common.{◌≡◌, drop}
use Rattle.chains.specs.Chains.{followed}
use Rattle.chains.proofs.is_followed.Given as goal

-- what is left to look at says what the whole does
abbrev pub invariant-loop-f : goal.invariant-loop-f
invariant-loop-f l = followed l.keys l.e l.later ≡ followed l.keys l.e (drop l.f-index l.later)
