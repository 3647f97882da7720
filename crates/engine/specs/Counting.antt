-- The counts of a session, as an operation moves them
use Rattle.std.specs.Prelude.{Bool, ◌&&◌, cond, false, not, List, map, ◌≡◌, ◌+◌, ◌-◌, ◌<◌, ◌≤◌, ℕ, eqb, length, take}
use Rattle.strict.specs.Operations.{kind}
use Rattle.strict.specs.declared.Procedure.{Procedure}
use Rattle.strict.specs.declared.Rule.{Rule}
use Rattle.service.specs.Entry.{op_in}
use Rattle.service.specs.Limits.{most_operations, most_tiles}
use Rattle.service.specs.declared.Session.{Session}
use Rattle.levels.specs.Tally.{Movable, tally_after}
use Rattle.levels.specs.declared.Tally.{Tally}
use Rattle.rules.specs.Rules.{wants_place}

-- what a session counts of the tiles, and the session with another count of them
abbrev pub tally_in : Session → Tally
tally_in s = record { tiles = s.tiles; levels = s.levels }

abbrev pub with_tally : Session → Tally → Session
with_tally s c =
    record { rule = s.rule; marks = s.marks; tiles = c.tiles; operations = s.operations; journal = s.journal; levels = c.levels; spoken = s.spoken }

-- the places spoken for after an operation of kind n, that needs a place or not
abbrev pub spoken_after : ℕ → Bool → ℕ → ℕ
spoken_after n needs spoken = cond (eqb n 3) (spoken + 1) (cond (eqb n 1 && not needs) (spoken - 1) spoken)

-- whether an operation of kind n on tile k needs a place, by the rule of the session and its used entries
abbrev pub wants : Session → List ℕ → ℕ → ℕ → Bool
wants s o n k = wants_place s.rule (map op_in (take s.operations o)) n k

-- what lets the places spoken for move by one
pub record Speaks (r : Rule) (spoken : ℕ) (es : List ℕ) (n k : ℕ) : Type 0 where
  pub few : spoken ≤ most_tiles
  pub some : n ≡ 1 → wants_place r (map op_in es) n k ≡ false → 0 < spoken

-- an operation may be entered, where its tile is there or not; and the session behind it
pub record Enters (s : Session) (o : List ℕ) (p : Procedure) (k : ℕ) (there : Bool) : Type 0 where
  pub slot : s.operations < length o
  pub few_slots_lem : length o ≤ most_operations
  pub movable : Movable (tally_in s) k there
  pub speaks : Speaks s.rule s.spoken (take s.operations o) (kind p there) k

abbrev pub entered : Session → List ℕ → Procedure → ℕ → Bool → Session
entered s o p k there =
    let c : Tally = tally_after (tally_in s) p k there in
    record {
      rule = s.rule;
      marks = s.marks;
      tiles = c.tiles;
      operations = s.operations + 1;
      journal = s.journal;
      levels = c.levels;
      spoken = spoken_after (kind p there) (wants s o (kind p there) k) s.spoken;
    }
