-- `restoring::note_absent` meets its contract: the tile is looked for among those that come back
use mathlib.Core.Path.{ap}
use lib.ListN.{take}
use native.Mathlib.Omega.{arith}
use Rattle.search.specs.Laws.{used_length}
use Rattle.strict.specs.Operations.{effect}
use Rattle.tiles.specs.Laws.{spot_named}
use Rattle.tiles.specs.declared.Spot.{Spot}
use Rattle.restoring.proofs.Members.{one_more}
use Rattle.restoring.proofs.note_absent.Goals as goal

pub affect-coming-requires : goal.affect-coming-requires
affect-coming-requires c =
    let l = take c.args.notes.coming c.args.back.now in
    let found = c.find-awaited.ensures in
    let key = ap (λ (x : Spot). x.key) found in
    let free = c.requires.1 in
    (c.requires.0, spot_named l _ _ found, omega (arith, one_more (effect c.args.procedure) c.find-awaited.result.key l c.requires.0.ascending, used_length c.requires.0))

pub after-tally-requires : goal.after-tally-requires
after-tally-requires c = rw c.find-awaited.ensures c.requires.2

pub returns : goal.returns
returns c =
    let found = c.find-awaited.ensures in
    let affected = rw found at c.affect-coming.ensures in
    (rw found at c.after-tally.ensures, affected.0, affected.1)
