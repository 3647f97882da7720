-- `admission::admit` meets its contract: the tests are those of the verdict, in its order
use Rattle.std.proofs.Common.{◌∙◌, ap, sym, eq-eqb, ne_eqb}
use Rattle.std.specs.Prelude.{Err}
use Rattle.std.proofs.lemmas.Result.{err_from_is_err_and}
use Rattle.admission.specs.Laws.{admitted, found_so, held, no_place, no_slot, operations_count}
use Rattle.admission.proofs.admit.Goals as goal

pub returns-in_err-spot : goal.returns-in_err-spot
returns-in_err-spot c =
    let e = err_from_is_err_and c.from_residual.result c.from_residual.ensures.1 in
    e.1 ∙ ap Err e.2 ∙ held _ _ _ _ _ _ _ (found_so _ _ _ _ _ _ _ c.unheld.ensures c.in_err-spot.was)

pub returns-then-lacks_place : goal.returns-then-lacks_place
returns-then-lacks_place c =
    let found = found_so _ _ _ _ _ _ _ c.unheld.ensures c.in_ok-spot.was in
    no_place _ _ _ _ _ _ _ found c.kind-kind.ensures c.lacks_place.ensures c.if-lacks_place.true

pub returns-then-session-operations : goal.returns-then-session-operations
returns-then-session-operations c =
    let found = found_so _ _ _ _ _ _ _ c.unheld.ensures c.in_ok-spot.was in
    no_slot _ _ _ _ _ _ _ found c.kind-kind.ensures c.lacks_place.ensures c.if-lacks_place.false
    (eq-eqb _ _ (operations_count _ c.requires ∙ c.if-session-operations.true))

pub returns : goal.returns
returns c =
    let found = found_so _ _ _ _ _ _ _ c.unheld.ensures c.in_ok-spot.was in
    admitted _ _ _ _ _ _ _ found c.kind-kind.ensures c.lacks_place.ensures c.if-lacks_place.false
    (ne_eqb _ _ (λ e. c.if-session-operations.false (sym (operations_count _ c.requires) ∙ e)))
