-- `restoring::note` meets its contract: a tile of the table is marked, another is put among those that come back
use Rattle.std.proofs.Common.{◌∙◌, ap, arith, sym}
use Rattle.tiles.specs.declared.Spot.{Spot}
use Rattle.restoring.proofs.Noting.{absent_movable, at_mark, noted_absent, noted_present, present_movable}
use Rattle.restoring.proofs.note.Goals as goal

pub note_present-requires : goal.note_present-requires
note_present-requires c =
    let here = sym (ap (λ (x : Spot). x.there) c.find-spot.ensures) ∙ c.if-spot.true in
    let noted = c.requires.0.noted in
    rw c.find-spot.ensures (at_mark noted c.args.key c.requires.1 here, present_movable noted c.args.key c.requires.1 here c.requires.0.few)

pub returns-then-spot : goal.returns-then-spot
returns-then-spot c =
    let here = sym (ap (λ (x : Spot). x.there) c.find-spot.ensures) ∙ c.if-spot.true in
    let done = rw c.find-spot.ensures at c.note_present.ensures in
    let same = done.1 in
    (noted_present c.requires.0.noted c.args.key c.requires.1 here c.args.procedure _ _ done, omega arith)

pub note_absent-requires : goal.note_absent-requires
note_absent-requires c =
    let gone = sym (ap (λ (x : Spot). x.there) c.find-spot.ensures) ∙ c.if-spot.false in
    (c.requires.0.noted.awaited, c.requires.0.room, absent_movable c.requires.0.noted c.args.key c.requires.1 gone c.requires.0.few)

pub returns-else-spot : goal.returns-else-spot
returns-else-spot c =
    let gone = sym (ap (λ (x : Spot). x.there) c.find-spot.ensures) ∙ c.if-spot.false in
    noted_absent c.requires.0.noted c.args.key c.requires.1 gone c.args.procedure _ _ c.requires.0.room c.note_absent.ensures
