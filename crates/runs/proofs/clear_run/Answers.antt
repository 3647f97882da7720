-- `runs::clear_run` meets its contract: the others are kept, and the places behind them cleared
use mathlib.Core.Path.{◌∙◌}
use Rattle.runs.specs.Laws.{wiped}
use Rattle.runs.proofs.clear_run.Goals as goal

pub returns : goal.returns
returns c = c.wipe.ensures ∙ wiped c.requires.0 c.keep_others-left.ensures
