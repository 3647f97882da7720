-- The session behind the end of a job, in the numbers that the code moves
use Rattle.std.specs.Prelude.{false, ℕ, set}
use Rattle.service.specs.declared.Session.{Session}

-- the job is closed, with so many operations left, which speak for so many places
abbrev pub closed : Session → ℕ → ℕ → ℕ → Session
closed s job operations spoken =
    record { rule = s.rule; marks = set s.marks job false; tiles = s.tiles; operations = operations; journal = s.journal; levels = s.levels; spoken = spoken }
