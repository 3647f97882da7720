-- `chains::entry_chained` meets its contract: what follows the entry says what is asked of it
use Rattle.std.specs.Prelude.{not, eqb}
use Rattle.std.proofs.Common.{◌∙◌, ◌≡◌, ◌+◌, ◌-◌, arith, drop, get_or, length, sym, take}
use Rattle.std.proofs.lemmas.Grind.{common_steps}
use Rattle.service.specs.Entry.{key_in}
use Rattle.chains.specs.Chains.{followed}
use Rattle.chains.proofs.Near.{same_from}
use Rattle.chains.proofs.Passes.{followed_passes, followed_settles}
use Rattle.chains.proofs.entry_chained.Goals as goal

pub returns-else-not-is_changing : goal.returns-else-not-is_changing
returns-else-not-is_changing c =
    let l = c.args.entries.now in
    let from = c.args.from in
    let t = c.args.keys.now in
    let e = get_or l c.args.at 0 in
    let later : take (length l - from) (drop from l) ≡ drop from l = grind (arith, common_steps) in
    let same = same_from (followed t e) (λ f. not (eqb (key_in e) (key_in f))) (followed_passes t e) l from c.requires.2 (c.args.at + 1) (omega arith) c.requires.3 in
    rw later at c.is_followed.ensures
    ∙ sym same
    ∙ followed_settles t e (sym c.is_changing.ensures ∙ c.if-not-is_changing.false) (drop (c.args.at + 1) l) c.requires.4
