-- The loop that undoes a job entry by entry, from the last down
use mathlib.Core.List.{List}
use mathlib.Core.Logic.{◌≢◌}
use mathlib.Core.Path.{◌∙◌, ◌≡◌, ap, sym}
use Prim.Native.Nat.{◌-◌, ◌<◌, ◌≤◌, ℕ}
use native.Mathlib.Omega.{arith}
use lib.ListN.{get_or, length, take}
use Rattle.lists.specs.Lists.{padded}
use Rattle.service.specs.Entry.{job_in}
use Rattle.service.proofs.Laws.Storing.{length_padded, used_padded}
use Rattle.levels.specs.Tally.{tally_of}
use Rattle.levels.specs.declared.Tally.{Tally}
use Rattle.search.specs.Laws.{padded_table}
use Rattle.search.specs.Table.{TileTable}
use Rattle.restoring.specs.Laws.{none_undone, undone_ascending, undone_fits, undone_other, undone_own}
use Rattle.restoring.specs.Recovery.{Tallied, Undoable, recovered, undone_from}

-- the entries from i on have been undone
pub record Undoing (i : ℕ) (tiles₀ : List ℕ) (c : Tally) (es : List ℕ) (job : ℕ) (tiles : List ℕ) (left : Tally) : Type 0 where
  pub inside : i ≤ length es
  pub holds : tiles ≡ padded (length tiles₀) (undone_from i job es (take c.tiles tiles₀))
  pub number : left ≡ tally_of (undone_from i job es (take c.tiles tiles₀))

module _ {tiles₀ : List ℕ} {c : Tally} {es : List ℕ} (u : Undoable tiles₀ c es) (job : ℕ) where
  abbrev From : ℕ → List ℕ → Tally → Type 0
  From i tiles left = Undoing i tiles₀ c es job tiles left

  abbrev undone : ℕ → List ℕ
  undone i = undone_from i job es (take c.tiles tiles₀)

  pub begins : From (length es) tiles₀ c
  begins = record { inside = omega arith; holds = rw (none_undone u job) u.tallied.table.zeros_behind; number = rw (none_undone u job) u.tallied.right }

  module _ {i : ℕ} {tiles : List ℕ} {left : Tally} (s : From i tiles left) where
    left_tiles : left.tiles ≡ length (undone i)
    left_tiles = ap (λ (c : Tally). c.tiles) s.number

    used_now : take left.tiles tiles ≡ undone i
    used_now = rw (left_tiles, s.holds) (used_padded (length tiles₀) (undone i))

    pub same_places : length tiles ≡ length tiles₀
    same_places = ap length s.holds ∙ length_padded (length tiles₀) (undone i) (undone_fits u job i)

    table_now : TileTable tiles left.tiles
    table_now = rw (left_tiles, s.holds) (padded_table (length tiles₀) (undone i) (undone_fits u job i) (undone_ascending u job i))

    pub tallied_now : Tallied tiles left
    tallied_now = record { table = table_now; right = s.number ∙ ap tally_of (sym used_now); few = rw same_places u.tallied.few }

    module _ (some : 0 < i) where
      abbrev e : ℕ
      e = get_or es (i - 1) 0

      taken : job_in e ≡ job → undone (i - 1) ≡ recovered e (take left.tiles tiles)
      taken own = undone_own u job some s.inside own ∙ ap (recovered e) (sym used_now)

      pub recovery_fits : job_in e ≡ job → length (recovered e (take left.tiles tiles)) ≤ length tiles
      recovery_fits own = omega (arith, ap length (taken own), undone_fits u job (i - 1), same_places)

      pub recovers : job_in e ≡ job → (tiles' : List ℕ) (left' : Tally)
          → (left' ≡ tally_of (recovered e (take left.tiles tiles))) × (tiles' ≡ padded (length tiles) (recovered e (take left.tiles tiles)))
          → From (i - 1) tiles' left'
      recovers own tiles' left' done =
          let inside = s.inside in
          record {
            inside = omega arith;
            holds = done.1 ∙ ap (λ n. padded n (recovered e (take left.tiles tiles))) same_places ∙ ap (padded (length tiles₀)) (sym (taken own));
            number = done.0 ∙ ap tally_of (sym (taken own));
          }

      pub passes : job_in e ≢ job → From (i - 1) tiles left
      passes other =
          let inside = s.inside in
          record { inside = omega arith; holds = rw (undone_other u job some inside other) s.holds; number = rw (undone_other u job some inside other) s.number }
