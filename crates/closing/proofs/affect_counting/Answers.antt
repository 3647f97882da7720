-- `closing::affect_counting` meets its contract: the tiles, and their count
use mathlib.Core.Path.{◌∙◌, ap, subst, sym}
use Rattle.levels.specs.Tally.{Movable, tally_after}
use Rattle.tiles.specs.declared.Spot.{Spot}
use Rattle.closing.proofs.Laws.{may_move, moves}
use Rattle.closing.proofs.affect_counting.Goals as goal

pub affect-requires : goal.affect-requires
affect-requires c = let p = c.requires in (p.0.table, p.1, p.3)

pub after-requires : goal.after-requires
after-requires c =
    subst (λ b. Movable c.args.tally c.args.spot.key b) (sym (ap (λ (x : Spot). x.there) c.requires.1)) (may_move c.requires.0 c.args.spot.key c.requires.2)

pub returns : goal.returns
returns c = (
  c.after.ensures ∙ ap (λ b. tally_after c.args.tally c.args.procedure c.args.spot.key b) (ap (λ (x : Spot). x.there) c.requires.1)
      ∙ moves c.requires.0 c.args.spot.key c.requires.2 c.args.procedure,
  c.affect.ensures.1,
)
