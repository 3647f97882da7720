-- `chains::is_chained` meets its contract: the entries behind are settled, and each slot has the nearest of them
use Rattle.std.proofs.Common.{◌∙◌, ◌≡◌, ◌+◌, ◌-◌, ◌<◌, ap, arith, drop_of_length-le, length, refl, rules, sym}
use Rattle.strict.specs.declared.Rule.TheVariants.{Together}
use Rattle.settling.specs.Laws.{not_settled, settled_back}
use Rattle.chains.specs.Chains.{near_slot}
use Rattle.chains.proofs.Near.{near_recorded, near_start}
use Rattle.chains.proofs.is_chained.Goals as goal
use Rattle.chains.proofs.is_chained.Invariants.{each}

pub loop-i-init : goal.loop-i-init
loop-i-init c =
    let entries = c.args.entries.now in
    (refl, near_start each entries, rw (drop_of_length-le entries {i = length entries} (omega arith)))

pub returns-then-not-entry_chained : goal.returns-then-not-entry_chained
returns-then-not-entry_chained c =
    let i = c.loop-i.i - 1 in
    let keys = c.args.keys.now in
    let entries = c.args.entries.now in
    sym (not_settled Together keys entries i (omega arith)
    (settled_back Together keys entries i (omega arith) (sym c.entry_chained.ensures ∙ c.if-not-entry_chained.true)))

pub loop-i-preserved : goal.loop-i-preserved
loop-i-preserved c =
    let l = c.loop-i in
    let i = l.i - 1 in
    let s = c.slot_of-s in
    let entries = c.args.entries.now in
    let inside : s.result < length l.near = omega arith in
    let back : i + 1 ≡ l.i = omega arith in (
      search rules,
      near_recorded each entries i (omega arith) l.near s.result (s.ensures.0 ∙ ap near_slot c.key_in.ensures) inside (rw back l.invariant.1),
      settled_back Together c.args.keys.now entries i (omega arith) (sym c.entry_chained.ensures ∙ c.if-not-entry_chained.false) ∙ rw back l.invariant.2,
    )
