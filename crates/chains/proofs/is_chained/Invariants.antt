use Rattle.std.proofs.Common.{◌≡◌, Bool, drop, length, true, ℕ}
use Rattle.strict.specs.declared.Rule.TheVariants.{Together}
use Rattle.service.specs.Sound.{settled_B}
use Rattle.chains.proofs.Near.{Nearest}
use Rattle.chains.proofs.is_chained.Given as goal

abbrev pub each : ℕ → Bool
each e = true

-- the entries behind are settled, and each slot has the nearest of them
abbrev pub invariant-loop-i : goal.invariant-loop-i
invariant-loop-i l =
    (length l.near ≡ 16384) × Nearest each l.entries l.near l.i × (settled_B Together l.keys (drop l.i l.entries) ≡ true)
