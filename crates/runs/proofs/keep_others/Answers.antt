-- What is kept, with what is left to keep of the tiles ahead, is the same at each turn
use Rattle.std.specs.Prelude.{◌≤◌, ◌<◌, get_or, length}
use Rattle.std.proofs.Common.{arith}
use Rattle.runs.proofs.Keeping.{ends, goes, passes, stays}
use Rattle.runs.proofs.keep_others.Goals.{else-at-keys+else-tile-keys, else-loop-at-test, then-at-keys, then-at-keys-via-else-at-keys+then-tile-keys, then-at-keys-via-then-at-keys, then-loop-at-test+else-keys-at}
use Rattle.runs.proofs.keep_others.Goals as goal

pub loop-at-preserved : goal.loop-at-preserved
loop-at-preserved c =
    passes c.requires.0.fits c.requires.1 c.requires.0.ascending c.loop-at.invariant (omega arith) (omega arith) (omega arith)

pub loop-i-preserved : goal.loop-i-preserved
loop-i-preserved c =
    elim c.if-at-keys.branch [
      | then-at-keys w ↦
          let above : c.loop-at.at < length c.args.keys.now → get_or c.loop-i.tiles c.loop-i.i 0 < get_or c.args.keys.now c.loop-at.at 0 =
          λ h. elim w.then-at-keys.branch [ then-at-keys-via-then-at-keys v ↦ absurd (omega arith) | then-at-keys-via-else-at-keys+then-tile-keys v ↦ omega arith ] in
          rw (w.tiles-is, w.left-is) (stays c.requires.0.fits c.requires.1 c.requires.0.ascending c.loop-at.invariant (omega arith) above)
      | else-at-keys+else-tile-keys w ↦
          let not_below : get_or c.loop-i.tiles c.loop-i.i 0 ≤ get_or c.args.keys.now c.loop-at.at 0 =
          elim c.loop-at-test.branch [ then-loop-at-test+else-keys-at v ↦ omega arith | else-loop-at-test v ↦ absurd (omega arith) ] in
          rw (w.tiles-is, w.left-is) (goes c.requires.0.fits c.requires.1 c.requires.0.ascending c.loop-at.invariant (omega arith) (omega arith) (omega arith))
    ]

pub returns : goal.returns
returns c =
    ends c.requires.0.fits c.requires.1 c.requires.0.ascending c.loop-i.invariant (omega arith)
