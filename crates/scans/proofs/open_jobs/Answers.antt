-- `scans::open_jobs` meets its contract: the chain counts the open marks
use Rattle.std.proofs.Common.{◌∙◌, ◌≡◌, rules, arith, count_by, length, sym}
use Rattle.std.proofs.iter.runs.Made.{chains}
use Rattle.std.proofs.lemmas.List.Sums.{count_by-le-length, length-filter}
use Rattle.scans.proofs.Passes.{marks_counted}
use Rattle.scans.proofs.open_jobs.Goals as goal

pub returns : goal.returns
returns c =
    let marks = c.args.session.marks in
    let full : length marks ≡ 64 = search rules in
    let counted : c.count.result ≡ count_by (λ b. b) marks = search (rules, chains) in
    (counted ∙ sym (length-filter (λ b. b) marks) ∙ marks_counted marks, omega (arith, counted, count_by-le-length (λ b. b) marks))
