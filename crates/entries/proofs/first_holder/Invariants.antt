use Rattle.entries.specs.Table.{opposes}
use Rattle.entries.specs.contracts.fn.first_holder.first as closure
use Rattle.entries.proofs.first_holder.Given as goal

-- what the closure tests
abbrev pub ghost-first : goal.ghost-first
ghost-first a = opposes (closure.captures a.test).kind (closure.captures a.test).key
