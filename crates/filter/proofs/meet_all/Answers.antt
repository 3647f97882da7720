-- `filter::meet_all` meets its contract: the filter covers the entries passed
use Rattle.std.proofs.Common.{◌≡◌, ◌<◌, add-one, arith, length, rules, sym}
use Rattle.std.proofs.Math.Seq.{take-length, take-suc}
use Rattle.filter.specs.Laws.{covers_behind}
use Rattle.filter.proofs.meet_all.Goals as goal

pub loop-e-preserved : goal.loop-e-preserved
loop-e-preserved c =
    let l = c.loop-e in
    let es = c.args.entries.now in
    let inside : l.e-index < length es = omega arith in
    (search rules, rw (add-one, take-suc es l.e-index 0 inside) (covers_behind _ _ _ (c.meet.ensures _ _ (sym c.key_in.ensures) l.invariant.1)))

pub returns : goal.returns
returns c =
    let l = c.loop-e in
    let es = c.args.entries.now in
    let all : l.e-index ≡ length es = omega arith in
    (l.invariant.0, rw (all, take-length) at l.invariant.1)
