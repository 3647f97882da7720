-- `runs::affect_run` meets its contract: where nothing is done nothing changes
use mathlib.Core.Path.{◌∙◌, ap, sym}
use lib.ListN.{length, take}
use Rattle.lists.specs.Lists.{padded}
use Rattle.runs.specs.Laws.{skip_all}
use Rattle.runs.proofs.affect_run.Goals as goal

pub returns-in-Mem : goal.returns-in-Mem
returns-in-Mem c =
    let used = take c.args.count c.args.tiles.now in
    rw c.in-Mem.is (c.requires.0.zeros_behind ∙ ap (padded (length c.args.tiles.now)) (sym (skip_all c.args.keys.now used)))
