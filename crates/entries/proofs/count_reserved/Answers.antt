-- `entries::count_reserved` meets its contract: the chain counts the entries that pass the test
use Rattle.std.proofs.Common.{◌∙◌, ◌≡◌, rules, count_by, sym}
use Rattle.std.proofs.iter.runs.Made.{chains}
use Rattle.std.proofs.lemmas.List.Sums.{length-filter}
use Rattle.entries.specs.Table.{deletes_for}
use Rattle.entries.proofs.Passes.{three_counted}
use Rattle.entries.proofs.count_reserved.Goals as goal

pub returns : goal.returns
returns c =
    let used = c.args.entries.now in
    let counted : c.count.result ≡ count_by (deletes_for c.args.whose) used = search (rules, chains) in
    counted ∙ sym (length-filter (deletes_for c.args.whose) used) ∙ three_counted c.args.whose used
