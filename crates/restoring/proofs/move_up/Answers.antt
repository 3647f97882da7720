-- `restoring::move_up` meets its contract: what is kept, with the unmarked tiles ahead, is the same at each turn
use Rattle.std.proofs.Common.{Bool, false, true, ◌∙◌, ◌≡◌, arith, refl}
use Rattle.std.specs.Int.{from_bool}
use Rattle.lists.specs.Truth.{one_if}
use Rattle.restoring.proofs.Sweeping.{ends, sweeps}
use Rattle.restoring.proofs.move_up.Goals as goal

truth : (b : Bool) → from_bool b ≡ one_if b
truth true = refl
truth false = refl

pub loop-i-preserved : goal.loop-i-preserved
loop-i-preserved c = sweeps c.requires.0 c.requires.1 c.loop-i.invariant c.loop-i-test.true _ (c.from-left.ensures ∙ truth _)

pub returns : goal.returns
returns c = ends c.requires.0 c.requires.1 c.loop-i.invariant (omega arith)
