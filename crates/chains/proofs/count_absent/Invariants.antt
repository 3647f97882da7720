use Rattle.std.proofs.Common.{◌≡◌, ◌+◌, ◌≤◌, drop, length}
use Rattle.chains.proofs.Near.{Nearest}
use Rattle.chains.proofs.Passes.{counted_in, is_delete}
use Rattle.chains.proofs.count_absent.Given as goal

-- the entries behind are counted, and each slot has the nearest delete among them
abbrev pub invariant-loop-i : goal.invariant-loop-i
invariant-loop-i l =
    (length l.deletes ≡ 16384) × (l.absent + l.i ≤ length l.entries) × Nearest is_delete l.entries l.deletes l.i × (l.absent ≡ counted_in l.whose l.keys (drop l.i l.entries))
