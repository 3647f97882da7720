-- The rule's tests of an entry and of a kind, in the numbers that the code moves
use Rattle.std.specs.Prelude.{Bool, ◌&&◌, not, List, ℕ, eqb}
use Rattle.entries.specs.Table.{opposes, others_change}
use Rattle.strict.specs.Book.{deleted}
use Rattle.strict.specs.Operations.{Op}
use Rattle.strict.specs.declared.Rule.{Rule}
use Rattle.strict.specs.declared.Rule.TheVariants.{Alone, Together}

-- an entry holds a new operation of this job and kind on the tile `key`
abbrev pub holds_by : Rule → ℕ → ℕ → ℕ → ℕ → Bool
holds_by Alone job n key e = opposes n key e
holds_by Together job n key e = others_change job key e

-- an operation of this kind on the tile `key` needs a place more, where these are unfinished
abbrev pub wants_place : Rule → List Op → ℕ → ℕ → Bool
wants_place Alone us n key = eqb n 1
wants_place Together us n key = eqb n 1 && not (deleted key us)
