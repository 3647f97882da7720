-- `filter::meet` meets its contract: no bit is lost, and the tile's is set
use Rattle.std.proofs.Common.{arith, length, ◌<◌}
use Rattle.filter.specs.Laws.{covers_next}
use Rattle.filter.proofs.meet.Goals as goal

pub returns : goal.returns
returns c e es own covered =
    let p = c.place_of-w.ensures in
    let w = c.place_of-w.result.0 in
    let inside : w < length c.args.seen.now = omega arith in
    covers_next c.args.seen.now w c.with_bit.result inside c.with_bit.ensures.1 c.args.key _ p.word.0 p.bit.0 c.with_bit.ensures.0 e own es covered
