use Rattle.std.proofs.Common.{◌≡◌, length, take}
use Rattle.filter.specs.Filter.{Covers}
use Rattle.filter.proofs.meet_all.Given as goal

-- the filter covers the entries passed
abbrev pub invariant-loop-e : goal.invariant-loop-e
invariant-loop-e l = (length l.met ≡ 1024) × Covers l.met (take l.e-index l.entries)
