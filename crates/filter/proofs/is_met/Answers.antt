-- `filter::is_met` meets its contract: where the bit of a tile is not set, the filter covers no entry with it
use Rattle.filter.specs.Laws.{not_seen}
use Rattle.filter.proofs.is_met.Goals as goal

pub returns : goal.returns
returns c es covered unset =
    let p = c.place_of-w.ensures in
    not_seen c.args.seen.now c.args.key _ _ p.word.0 p.bit.0 c.has_bit.ensures unset es covered
