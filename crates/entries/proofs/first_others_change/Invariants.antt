use Rattle.entries.specs.Table.{others_change}
use Rattle.entries.specs.contracts.fn.first_others_change.first as closure
use Rattle.entries.proofs.first_others_change.Given as goal

-- what the closure tests
abbrev pub ghost-first : goal.ghost-first
ghost-first a = others_change (closure.captures a.test).job (closure.captures a.test).key
