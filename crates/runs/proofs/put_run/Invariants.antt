use mathlib.Core.List.{◌++◌}
use mathlib.Core.Path.{◌≡◌}
use Prim.Native.Nat.{◌+◌}
use lib.ListN.{drop, length, take}
use Rattle.strict.specs.Operations.{put}
use Rattle.runs.proofs.Merging.{Merging}
use Rattle.runs.specs.Runs.{apply_all}
use Rattle.runs.proofs.put_run.Given as goal

-- What is left to merge in front of `place`, with what stands behind it, is the same at each turn
abbrev pub invariant-loop-key : goal.invariant-loop-key
invariant-loop-key l =
    Merging (apply_all put l.keys (take l.count l.initial.tiles) ++ drop l.left l.initial.tiles) l.tiles l.rest l.old l.place
    × (length l.tiles ≡ length l.initial.tiles)

abbrev pub decreases-loop-key : goal.decreases-loop-key
decreases-loop-key l = l.old + length l.rest
