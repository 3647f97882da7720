-- No more places are lent than there are
use Rattle.std.specs.Prelude.{List, ◌≤◌, ℕ, length}
use Rattle.desk.specs.declared.Desk.{Desk}

abbrev pub Lent : Desk → List ℕ → List ℕ → List ℕ → Type 0
Lent d tiles operations journal = (d.tiles ≤ length tiles) × (d.operations ≤ length operations) × (d.journal ≤ length journal)
