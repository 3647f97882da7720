use Rattle.std.specs.Prelude.{◌+◌, ◌<◌, ◌^◌, ◌≤◌}
use Rattle.search.specs.Table.{position_of}
use Rattle.search.proofs.position.Given as goal

-- The bits so far are those of the place, and the others are left
abbrev pub invariant-loop-bit : goal.invariant-loop-bit
invariant-loop-bit l = (l.at ≤ position_of l.key l.keys) × (position_of l.key l.keys < l.at + 2 ^ l.bit)
