-- `scans::entries_fit` meets its contract: the chain is the test of all
use Rattle.std.proofs.Common.{◌∙◌, rules}
use Rattle.std.proofs.lemmas.Iterator.{YieldsList-from_slice}
use Rattle.std.proofs.lemmas.Iterator.Search.{all_from_yields_List}
use borrow.Author.Tests.{tests}
use Rattle.service.specs.Sound.{entry_tests, every}
use Rattle.scans.proofs.Passes.{all_listed}
use Rattle.scans.proofs.entries_fit.Goals as goal

pub returns : goal.returns
returns c =
    let entries = c.args.entries.now in
    all_from_yields_List (λ e. every (entry_tests c.args.marks.now e)) _ _ _ c.all.ensures.ran (YieldsList-from_slice entries cc) (λ x b q k. search (rules, tests)) ∙ all_listed _ entries
