-- `judging::look_past` meets its contract: an entry on another tile neither holds nor counts
use Rattle.std.specs.Prelude.{Bool, Result, Ok, eqb}
use Rattle.std.proofs.Common.{◌∙◌, ap}
use Rattle.strict.specs.Operations.{kind}
use Rattle.admission.specs.declared.Holder.{Holder}
use Rattle.judging.specs.Laws.{apart_free}
use Rattle.judging.proofs.look_past.Goals as goal

pub returns : goal.returns
returns c =
    let a = c.args in
    let of_kind = c.kind.ensures ∙ ap (kind a.procedure) c.is_present-there.ensures in
    ap {B = Result Bool Holder} (λ n. Ok (eqb n 1)) of_kind
    ∙ apart_free a.rule a.keys.now a.entries.now a.job a.procedure a.key (c.requires.1 c.if-met.false)
