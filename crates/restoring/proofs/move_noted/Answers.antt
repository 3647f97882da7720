-- `restoring::move_noted` meets its contract: what stays, with what comes back merged into it
use mathlib.Core.Path.{◌∙◌, sym}
use Rattle.search.specs.Laws.{used_length}
use Rattle.restoring.proofs.Moving.{may_merge, merged}
use Rattle.restoring.proofs.move_noted.Goals as goal

pub slice_bounds-affect_run-end : goal.slice_bounds-affect_run-end
slice_bounds-affect_run-end c = sym (used_length c.requires.1.awaited)

pub affect_run-requires : goal.affect_run-requires
affect_run-requires c =
    may_merge c.requires.0 c.requires.1 c.requires.2 c.sweep-left.ensures

pub returns : goal.returns
returns c =
    c.affect_run.ensures ∙ merged c.requires.0 c.requires.1 c.requires.2 c.sweep-left.ensures
