-- `soundness::tables_sound` meets its contract: each call computes a part of the test, and what the parts before it say is what it requires
use Rattle.std.proofs.Common.{arith}
use Rattle.std.proofs.lemmas.Grind.{common_steps}
use Rattle.soundness.proofs.Laws.{keys_ascending, keys_valid, tabled_parts}
use Rattle.soundness.proofs.tables_sound.Goals as goal

pub is_settled-requires : goal.is_settled-requires
is_settled-requires c =
    let a = c.args in
    (grind (arith, common_steps, keys_ascending a.session a.tiles.now a.operations.now), grind (arith, common_steps))

pub counts_fresh-requires : goal.counts_fresh-requires
counts_fresh-requires c =
    let a = c.args in (
      grind (arith, common_steps, keys_ascending a.session a.tiles.now a.operations.now),
      grind (arith, common_steps, keys_valid a.session a.tiles.now a.operations.now),
      grind (arith, common_steps),
      grind (arith, common_steps),
    )

pub returns-then-is_settled : goal.returns-then-is_settled
returns-then-is_settled c = let a = c.args in grind (arith, common_steps, tabled_parts a.session a.tiles.now a.operations.now)

pub returns-else-is_settled : goal.returns-else-is_settled
returns-else-is_settled c = let a = c.args in grind (arith, common_steps, tabled_parts a.session a.tiles.now a.operations.now)

pub returns-then-not-counts_fit : goal.returns-then-not-counts_fit
returns-then-not-counts_fit c = let a = c.args in grind (arith, common_steps, tabled_parts a.session a.tiles.now a.operations.now)
