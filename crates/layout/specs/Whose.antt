-- Which of the unfinished operations are meant
use Rattle.std.specs.Prelude.{Bool, true}
use Rattle.strict.specs.Histories.{mine}
use Rattle.strict.specs.Operations.{Op}
use Rattle.layout.specs.declared.Whose.TheVariants.{Anyones, Jobs}
use Rattle.layout.specs.declared.Whose.{Whose}

abbrev pub meant : Whose → Op → Bool
meant Anyones u = true
meant (Jobs job) u = mine job u
