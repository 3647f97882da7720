-- A refusal for each test, and the key of the row counted from the north. A signed field is read back from its bits
use Rattle.std.proofs.Common.{arith, sym}
use Rattle.address.specs.Rows.{step_placed, step_rowless}
use Rattle.address.proofs.Signed.{field_read}
use Rattle.address.proofs.locate.Goals as goal

pub returns-then-not-has_row : goal.returns-then-not-has_row
returns-then-not-has_row c =
    let row = field_read c.args.a.row (omega arith) in
    step_rowless c.args.a (sym c.if-not-is_edition.ensures) (sym (rw row at c.if-not-has_row.ensures))

pub returns : goal.returns
returns c =
    let row = field_read c.args.a.row (omega arith) in
    let column = field_read c.args.a.column (omega arith) in
    let turns = field_read c.turns.result (omega arith) in
    let there = sym (rw row at c.if-not-has_row.ensures) in
    let counted = rw row at c.north_row-row.ensures in
    rw (turns, c.key.ensures, c.turns.ensures, column) (step_placed c.args.a (sym c.if-not-is_edition.ensures) there c.north_row-row.result counted)
