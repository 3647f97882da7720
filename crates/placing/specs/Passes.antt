-- What the pass over a list of keys that carries out asks for and promises
use Rattle.std.specs.Prelude.{cond, true, List, ◌≡◌, ◌≤◌, ℕ, eqb, length}
use Rattle.lists.specs.Lists.{All}
use Rattle.strict.specs.declared.Procedure.{Procedure}
use Rattle.grid.specs.Tile.{is_key}
use Rattle.service.specs.Claims.{Serves}
use Rattle.service.specs.Told.{bare, decided}
use Rattle.service.specs.World.{Reported, World}
use Rattle.service.specs.declared.Told.{Told}
use Rattle.rectangles.specs.Claims.{Apart}
use Rattle.rectangles.specs.Rectangles.{carried_all, list_refusals, most_in_rectangle}

-- 6, 7, 8 and 9 of a list, and else all of it
abbrev pub list_after : World → ℕ → ℕ → Procedure → List ℕ → Told → Reported
list_after w job sheet p ks t = record { told = t; after = cond (eqb t.number 0) (carried_all w job sheet p ks) w }

unfoldable pub list_call : World → ℕ → ℕ → Procedure → List ℕ → Reported
list_call w job sheet p ks = list_after w job sheet p ks (decided (list_refusals w job p ks) (bare 0))

-- 1, 2 and 3 do not refuse, and ks are keys of different tiles
pub record Carries (w : World) (job : ℕ) (ks : List ℕ) : Type 0 where
  pub ready : Serves w job
  pub few : length ks ≤ most_in_rectangle
  pub valid : All (λ k. is_key k ≡ true) ks
  pub apart : Apart ks
