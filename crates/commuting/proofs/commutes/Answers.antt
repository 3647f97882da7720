-- The constant is the table of specs/, row by row
use mathlib.Core.Path.{refl}
use Rattle.strict.specs.Commutativity.{entry_at}
use Rattle.commuting.proofs.commutes.Goals as goal

pub returns : goal.returns
unfolding entry_at
returns c = refl
