-- `engine::perform_operation` meets its contract: the effect on the tiles, and the entry behind the used ones
use Rattle.std.proofs.Common.{[], ◌∙◌, ◌≡◌, ap, length, rules, set, subst, sym}
use Rattle.lists.specs.Truth.{never}
use Rattle.strict.specs.Operations.{kind}
use Rattle.service.specs.Entry.{pack_entry}
use Rattle.service.specs.World.{world}
use Rattle.tiles.specs.declared.Spot.{Spot}
use Rattle.admission.specs.Laws.{tile_table}
use Rattle.engine.specs.Counting.{Enters, entered}
use Rattle.engine.specs.Forms.{affected_fits, may_enter, performed}
use Rattle.engine.proofs.perform_operation.Goals as goal

pub affect-requires : goal.affect-requires
affect-requires c =
    let a = c.args in
    let given = world a.session a.tiles.now a.operations.now [] in
    let full : length a.session.marks ≡ 64 = search (rules, c.well_formed) in
    (tile_table given c.requires.0.tabled, c.requires.1, affected_fits given full _ _ _ _ c.requires.0)

pub enter-requires : goal.enter-requires
enter-requires c =
    let a = c.args in
    let given = world a.session a.tiles.now a.operations.now [] in
    let full : length a.session.marks ≡ 64 = search (rules, c.well_formed) in
    let found = ap (λ (x : Spot). x.there) c.requires.1 in
    (subst (λ b. Enters a.session a.operations.now a.procedure a.spot.key b) (sym found) (may_enter given full _ _ _ _ c.requires.0), never)

pub returns : goal.returns
returns c =
    let a = c.args in
    let given = world a.session a.tiles.now a.operations.now [] in
    let full : length a.session.marks ≡ 64 = search (rules, c.well_formed) in
    let found = ap (λ (x : Spot). x.there) c.requires.1 in
    let entry = c.enter.ensures in
    performed given full a.job a.sheet a.procedure a.spot.key c.requires.0 _ _ _
    (entry.0 ∙ ap (entered a.session a.operations.now a.procedure a.spot.key) found)
    c.affect.ensures.1
    (entry.1 ∙ ap (λ b. set a.operations.now a.session.operations (pack_entry a.sheet (kind a.procedure b) a.job a.spot.key)) found)
