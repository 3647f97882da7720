-- A key that is there is taken away at its place, and any other changes nothing
use Rattle.std.proofs.Common.{◌∙◌, ◌-◌, ap, arith, set}
use Rattle.std.proofs.lemmas.Bool.{not-false, not-true}
use Rattle.tiles.proofs.Laws.{clear_again, clear_there, spot_used}
use Rattle.tiles.proofs.Moves.{moved_down}
use Rattle.tiles.proofs.clear.Goals as goal

pub returns-then-not-spot : goal.returns-then-not-spot
returns-then-not-spot c = clear_again c.requires.0 c.args.spot c.requires.1 (not-true _ c.if-not-spot.true)

pub overflow_add-spot : goal.overflow_add-spot
overflow_add-spot c = let used = spot_used c.requires.0 c.args.spot c.requires.1 (not-false _ c.if-not-spot.false) in omega arith

pub copy_within-requires-clause-start_le_end : goal.copy_within-requires-clause-start_le_end
copy_within-requires-clause-start_le_end c = let used = spot_used c.requires.0 c.args.spot c.requires.1 (not-false _ c.if-not-spot.false) in omega arith

pub copy_within-requires-clause-dest_in_bounds : goal.copy_within-requires-clause-dest_in_bounds
copy_within-requires-clause-dest_in_bounds c = let used = spot_used c.requires.0 c.args.spot c.requires.1 (not-false _ c.if-not-spot.false) in omega arith

pub returns : goal.returns
returns c =
    let there = not-false _ c.if-not-spot.false in
    let used = spot_used c.requires.0 c.args.spot c.requires.1 there in
    let made = clear_there c.requires.0 c.args.spot c.requires.1 there in
    let moved = moved_down c.args.tiles.now c.args.count c.args.spot.at used c.requires.0.fits in
    (made.0, ap (λ l. set l (c.args.count - 1) 0) c.copy_within.ensures.after ∙ moved ∙ made.1)
