-- `rules::count_spoken` meets its contract: by the first rule each entry of kind 3 speaks for a place
use Rattle.std.proofs.Common.{◌∙◌, arith, sym}
use Rattle.entries.specs.Laws.{reserved_three, three_count}
use Rattle.rules.proofs.count_spoken.Goals as goal

pub returns-in-Alone : goal.returns-in-Alone
returns-in-Alone c =
    let es = c.args.entries.now in
    (rw c.in-Alone.is (c.count_reserved.ensures ∙ sym (reserved_three c.args.whose es)), omega (arith, c.count_reserved.ensures, three_count c.args.whose es, c.requires.1))
