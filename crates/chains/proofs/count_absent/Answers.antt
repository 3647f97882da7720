-- `chains::count_absent` meets its contract: the entries behind are counted, and each slot has the nearest delete among them
use Rattle.std.proofs.Common.{◌∙◌, ◌≡◌, ◌+◌, ◌-◌, ◌<◌, ap, arith, drop, drop_of_length-le, eq-eqb, get_or, length, ne_eqb, refl, rules, sym, take}
use Rattle.std.proofs.lemmas.Grind.{common_steps}
use Rattle.service.specs.Entry.{key_in}
use Rattle.chains.specs.Chains.{near_slot}
use Rattle.chains.proofs.Near.{Reaches, near_passed, near_recorded, near_start}
use Rattle.chains.proofs.Passes.{counted_more, counted_same, is_delete}
use Rattle.chains.proofs.count_absent.Goals as goal
use Rattle.chains.proofs.count_absent.Goals.{else-is_last_absent, then-is_last_absent}

pub loop-i-init : goal.loop-i-init
loop-i-init c =
    let entries = c.args.entries.now in
    (refl, omega arith, near_start is_delete entries, rw (drop_of_length-le entries {i = length entries} (omega arith)))

pub loop-i-preserved-then-kind_in-eq3 : goal.loop-i-preserved-then-kind_in-eq3
loop-i-preserved-then-kind_in-eq3 c =
    let l = c.loop-i in
    let i = l.i - 1 in
    let s = c.slot_of-s in
    let from = length c.args.entries.now - c.from.result in
    let keys = c.args.keys.now in
    let entries = c.args.entries.now in
    let kind = eq-eqb _ 3 (sym c.kind_in.ensures ∙ c.if-kind_in-eq3.true) in
    let inside : s.result < length l.deletes = omega arith in
    let back : i + 1 ≡ l.i = omega arith in
    let near : Reaches is_delete (key_in (get_or entries i 0)) entries (i + 1) from = rw (back, c.from.ensures, s.ensures.0, c.key_in.ensures) (l.invariant.2 _) in
    let later : take (length entries - from) (drop from entries) ≡ drop from entries = grind (arith, common_steps) in
    let more = counted_more entries i (omega arith) c.args.whose keys from {absent = l.absent} kind near (rw later at c.is_last_absent.ensures) (rw back l.invariant.3) in (
      search rules,
      elim c.if-is_last_absent.branch [ then-is_last_absent w ↦ omega arith | else-is_last_absent w ↦ omega arith ],
      near_recorded is_delete entries i (omega arith) l.deletes s.result (s.ensures.0 ∙ ap near_slot c.key_in.ensures) inside (rw back l.invariant.2),
      elim c.if-is_last_absent.branch [
        | then-is_last_absent w ↦ w.absent-is ∙ rw w.if-is_last_absent.true at more
        | else-is_last_absent w ↦ w.absent-is ∙ (let z = rw w.if-is_last_absent.false at more in omega arith)
      ],
    )

pub loop-i-preserved : goal.loop-i-preserved
loop-i-preserved c =
    let l = c.loop-i in
    let i = l.i - 1 in
    let entries = c.args.entries.now in
    let kind = ne_eqb _ 3 (λ q. c.if-kind_in-eq3.false (c.kind_in.ensures ∙ q)) in
    let back : i + 1 ≡ l.i = omega arith in (
      l.invariant.0,
      omega arith,
      near_passed is_delete entries i (omega arith) l.deletes kind (rw back l.invariant.2),
      counted_same entries i (omega arith) c.args.whose c.args.keys.now kind (rw back l.invariant.3),
    )
