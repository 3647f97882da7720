-- `chains::is_deleted` meets its contract: the chain is the test of any
use Rattle.std.proofs.Common.{◌∙◌, ◌&&◌, eqb, rules}
use Rattle.std.proofs.lemmas.Iterator.{YieldsList-from_slice}
use Rattle.std.proofs.lemmas.Iterator.Search.{any_from_yields_List}
use borrow.Author.Tests.{tests}
use Rattle.service.specs.Entry.{key_in}
use Rattle.chains.proofs.Passes.{deleted_listed, is_delete}
use Rattle.chains.proofs.is_deleted.Goals as goal

pub returns : goal.returns
returns c =
    any_from_yields_List (λ e. is_delete e && eqb c.args.key (key_in e)) _ _ _ c.any.ensures.ran (YieldsList-from_slice c.args.entries.now cc) (λ x b q k. search (rules, tests))
    ∙ deleted_listed c.args.key c.args.entries.now
