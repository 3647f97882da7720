-- One more key is listed
use Rattle.std.proofs.Common.{arith, length-set}
use Rattle.shapes.specs.Laws.Listed.{stored_more}
use Rattle.shapes.specs.Shaping.{stepped}
use Rattle.shapes.proofs.list_keys.Goals as goal

pub loop-i-preserved : goal.loop-i-preserved
loop-i-preserved c =
    let a = c.args in (
      simp length-set c.loop-i.invariant.0,
      stored_more (stepped a.zoom a.columns a.first a.north a.height) c.loop-i.keys c.loop-i.i _ (omega arith) c.loop-i.invariant.1 c.key_at.ensures,
    )
