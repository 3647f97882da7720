-- A key that is there stands at its place
use Rattle.std.proofs.Common.{◌∙◌, ap₂, refl}
use Rattle.tiles.proofs.Laws.{read_there}
use Rattle.tiles.specs.declared.Spot.{Spot}
use Rattle.tiles.proofs.spot_at.Goals as goal

pub returns : goal.returns
returns c =
    let there = c.eq.ensures ∙ read_there c.args.key c.args.keys.now c.requires.0 c.requires.1 _ refl c.get.result c.get.ensures.lookup.0 c.get.ensures.lookup.1 in
    ap₂ {C = Spot} (λ p b. record { key = c.args.key; at = p; there = b }) c.requires.1 there
