-- `restoring::sweep` meets its contract: the unmarked tiles stand in front, and the places behind them are cleared
use mathlib.Core.Path.{◌∙◌}
use Rattle.runs.specs.Laws.{wiped}
use Rattle.restoring.proofs.sweep.Goals as goal

pub returns : goal.returns
returns c =
    (c.move_up-left.ensures.counted, c.wipe.ensures ∙ wiped c.requires.0 c.move_up-left.ensures)
