use mathlib.Core.Path.{◌≡◌}
use lib.ListN.{drop}
use Rattle.std.specs.Prelude.{None}
use Rattle.entries.specs.Table.{first_place}
use Rattle.entries.proofs.Passes.{placed}
use Rattle.entries.proofs.first.Given as goal

-- no entry passed passes the test, so the first of the rest is the first of all
abbrev pub invariant-loop-i : goal.invariant-loop-i
invariant-loop-i g l =
    (l.found ≡ None) × (placed l.i (first_place g.passes (drop l.i l.entries)) ≡ first_place g.passes l.entries)
