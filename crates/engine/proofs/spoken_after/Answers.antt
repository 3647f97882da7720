-- `engine::spoken_after` meets its contract: where no entry has the tile, a place is needed and none is taken that was spoken for
use Rattle.rules.specs.Laws.{unmet_wants}
use Rattle.engine.proofs.spoken_after.Goals as goal

pub returns-in_default-2 : goal.returns-in_default-2
returns-in_default-2 c =
    let a = c.args in
    rw (c.in-1.is, unmet_wants a.rule a.entries.now 1 a.key (c.requires.1 c.if-met.false))
