-- `admission::unheld` meets its contract: the first entry that holds is the book's holder
use Rattle.std.proofs.Common.{arith}
use Rattle.admission.proofs.Holding.{holder_used, nobody_holds, somebody_holds}
use Rattle.admission.proofs.unheld.Goals as goal

pub offset_bounds-entries-place : goal.offset_bounds-entries-place
offset_bounds-entries-place c =
    let a = c.args in
    omega (arith, holder_used a.rule _ _ a.job a.procedure a.key c.find-spot.ensures c.kind-kind.ensures c.first_holder.ensures c.in-Some.is)

pub bounds-entries-place : goal.bounds-entries-place
bounds-entries-place c =
    let a = c.args in
    holder_used a.rule _ _ a.job a.procedure a.key c.find-spot.ensures c.kind-kind.ensures c.first_holder.ensures c.in-Some.is

pub returns-in-None : goal.returns-in-None
returns-in-None c =
    let a = c.args in
    nobody_holds a.rule _ _ a.job a.procedure a.key c.find-spot.ensures c.kind-kind.ensures c.first_holder.ensures c.in-None.is

pub returns-in-Some : goal.returns-in-Some
returns-in-Some c =
    let a = c.args in
    somebody_holds a.rule _ _ a.job a.procedure a.key c.find-spot.ensures c.kind-kind.ensures c.first_holder.ensures c.in-Some.is c.job_in.ensures c.sheet_in.ensures
