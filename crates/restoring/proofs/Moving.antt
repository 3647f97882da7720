-- Tiles that have been swept, and those that come back merged in
use mathlib.Core.Bool.{Bool, false, true}
use mathlib.Core.List.{List, [], ◌∷◌}
use mathlib.Core.Path.{◌∙◌, ◌≡◌, ap}
use Prim.Native.Nat.{◌≤◌, ℕ}
use native.Mathlib.Omega.{arith}
use lib.ListN.{length, take}
use Rattle.lists.specs.Lists.{padded}
use Rattle.strict.specs.Operations.{put}
use Rattle.strict.specs.Tiles.{Ascending}
use Rattle.service.proofs.Laws.Storing.{length_padded, used_padded}
use Rattle.search.specs.Laws.{padded_table, used_length}
use Rattle.search.specs.Table.{TileTable}
use Rattle.runs.specs.Runs.{apply_all}
use Rattle.levels.specs.declared.Tally.{Tally}
use Rattle.restoring.specs.Notes.{Foretold, unmarked}
use Rattle.restoring.specs.declared.Notes.{Notes}
use Rattle.restoring.proofs.Members.{ascending_unmarked}

fewer : (ms : List Bool) (t : List ℕ) → length (unmarked ms t) ≤ length t
fewer [] t = omega arith
fewer (m ∷ ms) [] = omega arith
fewer (true ∷ ms) (x ∷ xs) = let ih = fewer ms xs in omega arith
fewer (false ∷ ms) (x ∷ xs) = let ih = fewer ms xs in omega arith

module _ {tiles : List ℕ} {count : ℕ} (table : TileTable tiles count) {l : List ℕ} {ms : List Bool} {back : List ℕ} {n : Notes} (h : Foretold (take count tiles) l ms back n) (fits : length l ≤ length tiles)
    {t : List ℕ} {left : ℕ} (swept : (left ≡ length (unmarked ms (take count tiles))) × (t ≡ padded (length tiles) (unmarked ms (take count tiles)))) where
  abbrev stay : List ℕ
  stay = unmarked ms (take count tiles)

  abbrev coming : List ℕ
  coming = take n.coming back

  stay_fit : length stay ≤ length tiles
  stay_fit = omega (arith, fewer ms (take count tiles), used_length table, table.fits)

  in_front : take left t ≡ stay
  in_front = rw (swept.0, swept.1) (used_padded (length tiles) stay)

  same_places : length t ≡ length tiles
  same_places = ap length swept.1 ∙ length_padded (length tiles) stay stay_fit

  total : n.tally.tiles ≡ length l
  total = ap (λ (c : Tally). c.tiles) h.right

  merges_into : apply_all put coming (take left t) ≡ l
  merges_into = ap (apply_all put coming) in_front ∙ h.become

  pub may_merge : TileTable t left × Ascending coming × (n.tally.tiles ≡ length (apply_all put coming (take left t))) × (n.tally.tiles ≤ length t)
  may_merge = (
    rw (swept.0, swept.1) (padded_table (length tiles) stay stay_fit (ascending_unmarked ms (take count tiles) h.ascending)),
    h.awaited.ascending,
    rw merges_into total,
    rw (same_places, total) fits,
  )

  pub merged : padded (length t) (apply_all put coming (take left t)) ≡ padded (length tiles) l
  merged = rw (same_places, merges_into)
