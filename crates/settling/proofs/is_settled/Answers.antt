-- `settling::is_settled` meets its contract: what is not settled from some entry on is not settled as a whole
use Rattle.std.proofs.Common.{◌∙◌, ◌≡◌, ◌+◌, ◌-◌, arith, drop, length, sym, take}
use Rattle.std.proofs.lemmas.Grind.{common_steps}
use Rattle.strict.specs.declared.Rule.TheVariants.{Alone}
use Rattle.settling.specs.Laws.{not_settled, settled_back}
use Rattle.settling.proofs.is_settled.Goals as goal

pub returns-then-not-entry_settled : goal.returns-then-not-entry_settled
returns-then-not-entry_settled c =
    let i = c.loop-i.i - 1 in
    let keys = c.args.keys.now in
    let entries = c.args.entries.now in
    let later : take (length entries - (i + 1)) (drop (i + 1) entries) ≡ drop (i + 1) entries = grind (arith, common_steps) in
    let fails = rw later at (sym c.entry_settled.ensures ∙ c.if-not-entry_settled.true) in
    sym (not_settled Alone keys entries i (omega arith) (settled_back Alone keys entries i (omega arith) fails))
