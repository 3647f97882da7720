-- What is kept is what a fresh count gives
use Rattle.std.specs.Prelude.{Bool, ◌||◌, false, true, List, ◌≡◌, refl, ◌+◌, ◌-◌, ◌≤◌, ℕ, eqb, length}
use Rattle.std.proofs.Common.{◌∙◌, ap, sym, arith}
use Rattle.lists.specs.Truth.{Same, other, same, same?}
use Rattle.strict.proofs.Laws.Members.{ascending_apply, member_apply, same_members, touch}
use Rattle.strict.proofs.Laws.Room.{length_delete, length_insert}
use Rattle.strict.specs.Operations.{apply, clear, effect, put}
use Rattle.strict.specs.Tiles.{Ascending, delete, insert_tile, member}
use Rattle.strict.specs.declared.Procedure.TheVariants.{Del, Ins, Mem}
use Rattle.strict.specs.declared.Procedure.{Procedure}
use Rattle.grid.proofs.Laws.Counting.{level_cleared, level_few, level_put, level_some}
use Rattle.grid.specs.Tile.{is_key}
use Rattle.service.specs.Limits.{most_tiles}
use Rattle.levels.specs.Tally.{Movable, lowered, raised, tally_after, tally_of}

module _ (k : ℕ) (valid : is_key k ≡ true) (t : List ℕ) (asc : Ascending t) where
  comes : member k t ≡ false → raised (tally_of t) k ≡ tally_of (insert_tile k t)
  comes m =
      let n : length t + 1 ≡ length (insert_tile k t) = let h = rw m at (length_insert k t asc) in omega arith in
      λ i. record { tiles = n i; levels = sym (level_put k valid t asc m) i }

  goes : member k t ≡ true → lowered (tally_of t) k ≡ tally_of (delete k t)
  goes m =
      let n : length t - 1 ≡ length (delete k t) = let h = rw m at (length_delete k t asc) in omega arith in
      λ i. record { tiles = n i; levels = sym (level_cleared k valid t asc m) i }

  stays_put : member k t ≡ true → t ≡ insert_tile k t
  stays_put m = sym (same_members (insert_tile k t) t (ascending_apply put k t asc) asc (λ j. member_apply put j k t ∙ by j (same? j k)))
    where
      by : (j : ℕ) → Same j k → eqb j k || member j t ≡ member j t
      by j (same p q) = rw (q, p, m)
      by j (other p q) = rw q

  stays_cleared : member k t ≡ false → t ≡ delete k t
  stays_cleared m = sym (same_members (delete k t) t (ascending_apply clear k t asc) asc (λ j. member_apply clear j k t ∙ by j (same? j k)))
    where
      by : (j : ℕ) → Same j k → touch clear (eqb j k) (member j t) ≡ member j t
      by j (same p q) = rw (q, p, m)
      by j (other p q) = rw q

  pub tally_kept : (p : Procedure) → tally_after (tally_of t) p k (member k t) ≡ tally_of (apply (effect p) k t)
  tally_kept p = go p (member k t) refl
    where
      go : (p : Procedure) (b : Bool) → member k t ≡ b → tally_after (tally_of t) p k b ≡ tally_of (apply (effect p) k t)
      go Ins true m = ap tally_of (stays_put m)
      go Ins false m = comes m
      go Del true m = goes m
      go Del false m = ap tally_of (stays_cleared m)
      go Mem b m = refl

  pub movable : length t ≤ most_tiles → Movable (tally_of t) k (member k t)
  movable l =
      record {
        valid = valid;
        few = l;
        level_few = let h = level_few k valid t in omega arith;
        some = λ m. let h = rw m at (length_delete k t asc) in omega arith;
        level_some = λ m. level_some k valid t asc m;
      }
