-- The part of service's test of soundness that is asked of one entry and the later ones
use Rattle.std.specs.Prelude.{Bool, ◌&&◌, ◌||◌, not, List, ℕ}
use Rattle.lists.specs.Lists.{all_true}
use Rattle.strict.specs.declared.Rule.{Rule}
use Rattle.service.specs.Entry.{key_in, kind_in}
use Rattle.service.specs.Sound.{as_left, changing, left_for, may_stand}

-- an entry is settled: its tile is as it left it, and where it changed it all later ones may stand after it
abbrev pub settled_at : Rule → List ℕ → List ℕ → ℕ → Bool
settled_at r t later e = as_left (kind_in e) (left_for r (key_in e) later t) && (not (changing (kind_in e)) || all_true (may_stand r e) later)
