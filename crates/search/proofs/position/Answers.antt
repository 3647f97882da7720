-- Each turn tests the element before the place that a step reaches
use Rattle.std.proofs.Common.{arith, rules}
use Rattle.search.proofs.Places.{ascending_parted, at_most, below, not_below, point_place, step}
use Rattle.search.proofs.position.Goals.{else-at-step-via-else-at-step, else-at-step-via-then-at-step+else-keys-at}
use Rattle.std.specs.Prelude.{ltb}
use Rattle.std.proofs.lemmas.List.Sorted.{IsPartitionPoint-from_clause}
use Rattle.search.proofs.position.Goals as goal

pub loop-bit-init : goal.loop-bit-init
loop-bit-init c = omega (arith, at_most c.args.key c.args.keys.now)

pub overflow_add-at : goal.overflow_add-at
overflow_add-at c =
    let s = step c.loop-bit.bit (omega arith) (omega arith) in
    let w = at_most c.args.key c.args.keys.now in
    omega arith

pub loop-bit-preserved-then-keys-at : goal.loop-bit-preserved-then-keys-at
loop-bit-preserved-then-keys-at c =
    let s = step c.loop-bit.bit (omega arith) (omega arith) in
    let h = below c.args.key _ c.args.keys.now c.requires (omega arith) c.if-keys-at.true in
    omega arith

pub loop-bit-preserved : goal.loop-bit-preserved
loop-bit-preserved c =
    let s = step c.loop-bit.bit (omega arith) (omega arith) in
    elim c.else-at-step.branch [
      | else-at-step-via-then-at-step+else-keys-at w ↦ let h = not_below c.args.key _ c.args.keys.now (omega arith) w.if-keys-at.false in omega arith
      | else-at-step-via-else-at-step w ↦ let h = at_most c.args.key c.args.keys.now in omega arith
    ]

pub returns-then-keys-lt-FEW : goal.returns-then-keys-lt-FEW
returns-then-keys-lt-FEW c =
    let point = IsPartitionPoint-from_clause (λ y. ltb y c.args.key) c.args.keys.now c.partition_point.result c.partition_point.ensures.partitioned (ascending_parted c.args.key c.args.keys.now c.requires) (λ a r f k. search rules) in
    point_place c.args.key c.args.keys.now c.partition_point.result c.partition_point.ensures.bound point
