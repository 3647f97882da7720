-- A count of the tiles that is right, before and after a procedure
use mathlib.Core.Bool.{true}
use mathlib.Core.List.{List}
use mathlib.Core.Path.{◌∙◌, ◌≡◌, ap, subst, sym}
use Prim.Native.Nat.{ℕ}
use native.Mathlib.Omega.{arith}
use lib.ListN.{take}
use Rattle.strict.specs.Operations.{apply, effect}
use Rattle.strict.specs.Tiles.{member}
use Rattle.strict.specs.declared.Procedure.{Procedure}
use Rattle.grid.specs.Tile.{is_key}
use Rattle.service.specs.Sound.{Tabled}
use Rattle.service.specs.World.{World}
use Rattle.search.specs.Laws.{used_length}
use Rattle.levels.specs.Laws.{movable, tally_kept}
use Rattle.levels.specs.Tally.{Movable, tally_after, tally_of}
use Rattle.levels.specs.declared.Tally.{Tally}
use Rattle.admission.specs.Laws.{tile_table}
use Rattle.engine.specs.Counting.{tally_in}
use Rattle.engine.specs.Forms.{tally_there}
use Rattle.restoring.specs.Recovery.{Tallied}

pub tallied : (w : World) → Tabled w → Tallied w.tiles (tally_in w.session)
tallied w o = record { table = tile_table w o; right = sym (tally_there w o); few = o.few_tiles }

module _ {l : List ℕ} {c : Tally} (t : Tallied l c) (k : ℕ) (valid : is_key k ≡ true) where
  pub may_move : Movable c k (member k (take c.tiles l))
  may_move =
      subst (λ x. Movable x k (member k (take c.tiles l))) (sym t.right)
      (movable k valid (take c.tiles l) t.table.ascending (omega (arith, used_length t.table, t.table.fits, t.few)))

  pub moves : (p : Procedure) → tally_after c p k (member k (take c.tiles l)) ≡ tally_of (apply (effect p) k (take c.tiles l))
  moves p = ap (λ x. tally_after x p k (member k (take c.tiles l))) t.right ∙ tally_kept k valid (take c.tiles l) t.table.ascending p
