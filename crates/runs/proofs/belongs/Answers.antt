-- A place between the key before it and the key there is that of the key
use Rattle.std.proofs.Common.{◌∙◌, arith, leb-true, ltb-true, sym}
use Rattle.runs.proofs.Spots.{place_known}
use Rattle.runs.proofs.belongs.Goals.{else-at-keys, then-at-keys+else-at-keys-2, then-at-keys+then-at-keys-2}
use Rattle.runs.proofs.belongs.Goals as goal

pub returns-else-at-eq0 : goal.returns-else-at-eq0
returns-else-at-eq0 c = λ e.
    elim c.if-at-keys.branch [
      | then-at-keys+then-at-keys-2 w ↦ place_known c.args.key c.args.keys.now c.requires c.args.at (omega arith) (λ h. ltb-true _ _ e) (λ h. absurd (omega arith))
      | then-at-keys+else-at-keys-2 w ↦ place_known c.args.key c.args.keys.now c.requires c.args.at (omega arith) (λ h. ltb-true _ _ e) (λ h. leb-true _ _ (sym w.value-is ∙ c.if-key-keys.true))
      | else-at-keys w ↦ absurd (omega (arith, leb-true _ _ (sym w.value-is ∙ c.if-key-keys.true)))
    ]
