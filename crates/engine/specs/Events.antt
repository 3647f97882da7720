-- An event that may happen on these tables, and the session after a job has opened, or the rule was named
use Rattle.std.specs.Prelude.{false, true, ◌≡◌, ℕ, length, set}
use Rattle.strict.specs.Histories.{Event}
use Rattle.strict.specs.declared.Rule.TheVariants.{Together}
use Rattle.service.specs.Admission.{refusals}
use Rattle.service.specs.Claims.{Named}
use Rattle.service.specs.Sound.{Tabled}
use Rattle.service.specs.Told.{refused}
use Rattle.service.specs.World.{World, state}
use Rattle.service.specs.declared.Session.{Session}

-- the tables are sound, the event names a job and a key, and nothing but the journal may refuse it
pub record Ready (w : World) (e : Event) : Type 0 where
  pub tabled : Tabled w
  pub named : Named e
  pub unrefused_by : refused (refusals (length w.tiles) (length w.operations) (state w) e) ≡ false

abbrev pub marked_open : Session → ℕ → Session
marked_open s job =
    record { rule = s.rule; marks = set s.marks job true; tiles = s.tiles; operations = s.operations; journal = s.journal; levels = s.levels; spoken = s.spoken }

-- from here on a job fails as one
abbrev pub governed : Session → Session
governed s =
    record { rule = Together; marks = s.marks; tiles = s.tiles; operations = s.operations; journal = s.journal; levels = s.levels; spoken = s.spoken }
