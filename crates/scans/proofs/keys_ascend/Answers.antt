-- `scans::keys_ascend` meets its contract: what is left to test, from above the last key, passes just where the whole does
use Rattle.scans.proofs.Passes.{keys_start}
use Rattle.scans.proofs.keys_ascend.Goals as goal

pub loop-key-init : goal.loop-key-init
loop-key-init c = keys_start c.args.keys.now
