-- Eleven times nothing
use Rattle.grid.specs.Levels.{levels_of}
use Rattle.sessions.proofs.empty_session.Goals as goal

pub returns : goal.returns
unfolding levels_of
returns c = c.unopened_session.ensures
