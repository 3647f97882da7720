-- One procedure more is noted
use mathlib.Core.Bool.{Bool, false, not, true}
use mathlib.Core.List.{List}
use mathlib.Core.Path.{◌∙◌, ◌≡◌, ap, refl, subst, sym}
use Prim.Native.Nat.{◌+◌, ◌<◌, ◌≤◌, ℕ}
use native.Mathlib.Omega.{arith}
use lib.ListN.{get_or, length, length-set, take}
use Rattle.lists.specs.Lists.{padded}
use Rattle.lists.specs.Truth.{never}
use Rattle.strict.proofs.Laws.Members.{ascending_apply}
use Rattle.strict.proofs.Laws.Soundness.{member_else}
use Rattle.strict.specs.Operations.{apply, effect}
use Rattle.strict.specs.Tiles.{Ascending, member}
use Rattle.strict.specs.declared.Procedure.TheVariants.{Del, Ins, Mem}
use Rattle.strict.specs.declared.Procedure.{Procedure}
use Rattle.grid.specs.Tile.{is_key}
use Rattle.service.proofs.Laws.Storing.{used_padded}
use Rattle.service.specs.Limits.{most_tiles}
use Rattle.search.specs.Laws.{padded_table, used_length}
use Rattle.search.specs.Table.{position_of}
use Rattle.levels.specs.Laws.{movable, tally_kept}
use Rattle.levels.specs.Tally.{Movable, tally_after, tally_of}
use Rattle.restoring.specs.Notes.{Foretold, marked_by, restored_by}
use Rattle.restoring.specs.declared.Notes.{Notes}
use Rattle.restoring.proofs.Members.{awaited_one, marked_one, one_more, place_inside, restored_ascending, there_absent, there_present}

-- what the tiles become may be named by the notes themselves
pub as_noted : {t l : List ℕ} {ms : List Bool} {back : List ℕ} {n : Notes} → Foretold t l ms back n → Foretold t (restored_by t ms back n) ms back n
as_noted {t} {l} {ms} {back} {n} h = subst (λ x. Foretold t x ms back n) (sym h.become) h

marks_same : (p : Procedure) (at : ℕ) (ms : List Bool) → length (marked_by p at ms) ≡ length ms
marks_same Ins at ms = length-set ms at false
marks_same Del at ms = length-set ms at true
marks_same Mem at ms = refl

module _ {t l : List ℕ} {ms : List Bool} {back : List ℕ} {n : Notes} (h : Foretold t l ms back n) (k : ℕ) where
  abbrev coming : List ℕ
  coming = take n.coming back

  ascends : Ascending l
  ascends = subst Ascending h.become (restored_ascending t h.ascending ms coming)

  module _ (valid : is_key k ≡ true) where
    may_count : {b : Bool} → member k l ≡ b → length l ≤ most_tiles → Movable n.tally k b
    may_count is few = rw (h.right, ← is) (movable k valid l ascends few)

    counts : {b : Bool} → member k l ≡ b → (p : Procedure) → tally_after n.tally p k b ≡ tally_of (apply (effect p) k l)
    counts is p = rw (h.right, ← is) (tally_kept k valid l ascends p)

    -- a tile of the table
    module _ (here : member k t ≡ true) where
      abbrev stays : Bool
      stays = not (get_or ms (position_of k t) false)

      is_there : member k l ≡ stays
      is_there = ap (member k) (sym h.become) ∙ there_present t h.ascending ms coming k here (h.apart k here)

      pub at_mark : position_of k t < length ms
      at_mark = omega (arith, place_inside t h.ascending k here, h.markable)

      pub present_movable : length l ≤ most_tiles → Movable n.tally k stays
      present_movable few = may_count is_there few

      pub noted_present : (p : Procedure) (n' : Notes) (ms' : List Bool)
          → (n'.tally ≡ tally_after n.tally p k stays) × (n'.coming ≡ n.coming) × (ms' ≡ marked_by p (position_of k t) ms)
          → Foretold t (apply (effect p) k l) ms' back n'
      noted_present p n' ms' done =
          record {
            ascending = h.ascending;
            markable = rw (done.2, marks_same p (position_of k t) ms) h.markable;
            awaited = rw done.1 h.awaited;
            apart = rw done.1 h.apart;
            become = rw (done.2, done.1) (marked_one t h.ascending ms coming k p here (h.apart k here) at_mark ∙ ap (apply (effect p) k) h.become);
            right = done.0 ∙ counts is_there p;
          }

    -- a tile that is not
    module _ (gone : member k t ≡ false) where
      comes_back : member k l ≡ member k coming
      comes_back = ap (member k) (sym h.become) ∙ there_absent t h.ascending ms coming k gone

      pub absent_movable : length l ≤ most_tiles → Movable n.tally k (member k coming)
      absent_movable few = may_count comes_back few

      apart_still : (p : Procedure) (j : ℕ) → member j t ≡ true → member j (apply (effect p) k coming) ≡ false
      apart_still p j there = member_else (effect p) j k coming (λ e. never (sym there ∙ ap (λ x. member x t) e ∙ gone)) ∙ h.apart j there

      pub noted_absent : (p : Procedure) (n' : Notes) (back' : List ℕ) → n.coming < length back
          → (n'.tally ≡ tally_after n.tally p k (member k coming)) × (n'.coming ≡ length (apply (effect p) k coming)) × (back' ≡ padded (length back) (apply (effect p) k coming))
          → Foretold t (apply (effect p) k l) ms back' n' × (n'.coming ≤ n.coming + 1)
      noted_absent p n' back' free done =
          let next = apply (effect p) k coming in
          let used : take n'.coming back' ≡ next = rw (done.1, done.2) (used_padded (length back) next) in
          let more : length next ≤ n.coming + 1 = omega (arith, one_more (effect p) k coming h.awaited.ascending, used_length h.awaited) in (
            record {
              ascending = h.ascending;
              markable = h.markable;
              awaited = rw (done.1, done.2) (padded_table (length back) next (omega arith) (ascending_apply (effect p) k coming h.awaited.ascending));
              apart = rw used (apart_still p);
              become = rw used (awaited_one t h.ascending ms coming k p gone ∙ ap (apply (effect p) k) h.become);
              right = done.0 ∙ counts comes_back p;
            },
            rw done.1 more,
          )
