use Rattle.std.proofs.Common.{◌≡◌, length, take}
use Rattle.rectangles.specs.Rectangles.{sequence}
use Rattle.shapes.specs.Shaping.{stepped}
use Rattle.shapes.proofs.list_keys.Given as goal

-- the first i keys are listed
abbrev pub invariant-loop-i : goal.invariant-loop-i
invariant-loop-i l =
    (length l.keys ≡ length l.fn.keys) × (take l.i l.keys ≡ sequence (stepped l.zoom l.columns l.first l.north l.height) 0 l.i)
