-- `judging::look_at` meets its contract
use Rattle.std.specs.Prelude.{Err}
use Rattle.std.proofs.Common.{◌∙◌, ap}
use Rattle.std.proofs.lemmas.Result.{err_from_is_err_and}
use Rattle.admission.specs.Laws.{found_so}
use Rattle.judging.specs.Laws.{free_found, held}
use Rattle.judging.proofs.look_at.Goals as goal

pub returns-in_err-spot : goal.returns-in_err-spot
returns-in_err-spot c =
    let e = err_from_is_err_and c.from_residual.result c.from_residual.ensures.1 in
    e.1 ∙ ap Err e.2 ∙ held _ _ _ _ _ _ (found_so _ _ _ _ _ _ _ c.unheld.ensures c.in_err-spot.was)

pub returns : goal.returns
returns c = free_found _ _ _ _ _ _ (found_so _ _ _ _ _ _ _ c.unheld.ensures c.in_ok-spot.was) c.kind-kind.ensures c.needs_place.ensures
