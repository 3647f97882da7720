-- One key more
use Rattle.std.proofs.Common.{arith}
use Rattle.runs.proofs.Ascents.{run_more}
use Rattle.runs.proofs.run_end.Goals as goal

pub loop-end-preserved : goal.loop-end-preserved
loop-end-preserved c =
    run_more c.args.keys.now c.loop-end.end (omega arith) (omega arith) (omega arith) c.loop-end.invariant
