use Rattle.std.proofs.Common.{◌≡◌, drop, length, true}
use Rattle.strict.specs.declared.Rule.TheVariants.{Alone}
use Rattle.service.specs.Sound.{settled_B}
use Rattle.filter.specs.Filter.{Covers}
use Rattle.settling.proofs.is_settled.Given as goal

-- the entries behind are settled, and the filter covers them
abbrev pub invariant-loop-i : goal.invariant-loop-i
invariant-loop-i l =
    (length l.filter ≡ 1024) × Covers l.filter (drop l.i l.entries) × (settled_B Alone l.keys (drop l.i l.entries) ≡ true)
