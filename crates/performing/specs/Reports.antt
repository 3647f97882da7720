-- What an operation that nothing refuses reports
use Rattle.std.specs.Prelude.{ℤ}
use Rattle.strict.specs.Histories.{Event}
use Rattle.service.specs.Admission.{answer_to}
use Rattle.service.specs.Calls.{carried}
use Rattle.service.specs.Told.{done}
use Rattle.service.specs.World.{Reported, World, state}

abbrev pub carried_out : World → Event → ℤ → Reported
carried_out w e turns = record { told = done (answer_to (state w) e) turns; after = carried w e }
