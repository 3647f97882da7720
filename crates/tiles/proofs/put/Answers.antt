-- A key that is there changes nothing, and any other is put at its place
use Rattle.std.proofs.Common.{◌∙◌, ap, arith, set}
use Rattle.tiles.proofs.Laws.{put_again, put_bounds, put_there}
use Rattle.tiles.proofs.Moves.{moved_up}
use Rattle.tiles.proofs.put.Goals as goal

pub returns-then-spot : goal.returns-then-spot
returns-then-spot c = put_again c.requires.0 c.args.spot c.requires.1 c.if-spot.true

pub overflow_add-spot : goal.overflow_add-spot
overflow_add-spot c = let b = put_bounds c.requires.0 c.args.spot c.requires.1 c.if-spot.false c.requires.2 in omega arith

pub copy_within-requires-clause-start_le_end : goal.copy_within-requires-clause-start_le_end
copy_within-requires-clause-start_le_end c = (put_bounds c.requires.0 c.args.spot c.requires.1 c.if-spot.false c.requires.2).0

pub copy_within-requires-clause-dest_in_bounds : goal.copy_within-requires-clause-dest_in_bounds
copy_within-requires-clause-dest_in_bounds c = let b = put_bounds c.requires.0 c.args.spot c.requires.1 c.if-spot.false c.requires.2 in omega arith

pub offset_bounds-tiles-spot : goal.offset_bounds-tiles-spot
offset_bounds-tiles-spot c = let b = put_bounds c.requires.0 c.args.spot c.requires.1 c.if-spot.false c.requires.2 in omega arith

pub bounds-tiles-spot : goal.bounds-tiles-spot
bounds-tiles-spot c = let b = put_bounds c.requires.0 c.args.spot c.requires.1 c.if-spot.false c.requires.2 in omega arith

pub returns : goal.returns
returns c =
    let b = put_bounds c.requires.0 c.args.spot c.requires.1 c.if-spot.false c.requires.2 in
    let made = put_there c.requires.0 c.args.spot c.requires.1 c.if-spot.false b.1 in
    let moved = moved_up c.args.tiles.now c.args.count c.args.spot.at c.args.spot.key b.0 b.1 in
    (made.0, ap (λ l. set l c.args.spot.at c.args.spot.key) c.copy_within.ensures.after ∙ moved ∙ made.1)
