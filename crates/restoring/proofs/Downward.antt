-- The loop that notes a job, from the last entry down
use mathlib.Core.Bool.{Bool}
use mathlib.Core.List.{List}
use mathlib.Core.Logic.{◌≢◌}
use mathlib.Core.Path.{◌∙◌, ◌≡◌, ap, refl, subst, sym}
use Prim.Native.Nat.{◌+◌, ◌-◌, ◌<◌, ◌≤◌, ℕ}
use native.Mathlib.Omega.{arith}
use lib.ListN.{get_or, length, take}
use Rattle.lists.specs.Lists.{All}
use Rattle.service.specs.Entry.{job_in}
use Rattle.service.proofs.Laws.Storing.{zeros_replicate}
use Rattle.levels.specs.declared.Tally.{Tally}
use Rattle.search.specs.Laws.{used_length, zeros_table}
use Rattle.restoring.specs.Laws.{none_undone, undone_fits, undone_other, undone_own}
use Rattle.restoring.specs.Notes.{Blank, MayNote, Foretold, restored_by, unmarked}
use Rattle.restoring.specs.Recovery.{Undoable, recovered, undone_from}
use Rattle.restoring.specs.declared.Notes.{Notes}
use Rattle.restoring.proofs.Members.{none_marked}
use Rattle.restoring.proofs.Noting.{as_noted}

-- the entries from i on have been noted
pub record NotedFrom (i : ℕ) (tiles : List ℕ) (c : Tally) (es : List ℕ) (job : ℕ) (ms₀ : List Bool) (back₀ : List ℕ) (ms : List Bool) (back : List ℕ) (n : Notes) : Type 0 where
  pub inside : i ≤ length es
  pub same_marks : length ms ≡ length ms₀
  pub same_back : length back ≡ length back₀
  pub few : n.coming + i ≤ length es
  pub noted : Foretold (take c.tiles tiles) (undone_from i job es (take c.tiles tiles)) ms back n

module _ {tiles : List ℕ} {c : Tally} {es : List ℕ} (u : Undoable tiles c es) (job : ℕ) {ms₀ : List Bool} {back₀ : List ℕ} (blank : Blank ms₀ back₀ (length tiles) (length es)) where
  abbrev From : ℕ → List Bool → List ℕ → Notes → Type 0
  From i ms back n = NotedFrom i tiles c es job ms₀ back₀ ms back n

  pub begins : From (length es) ms₀ back₀ (record { tally = c; coming = 0 })
  begins =
      let none : unmarked ms₀ (take c.tiles tiles) ≡ take c.tiles tiles = rw blank.no_marks (none_marked (length ms₀) (take c.tiles tiles)) in
      let zeros : All (λ (x : ℕ). x ≡ 0) back₀ = rw blank.none_coming (zeros_replicate (length back₀)) in
      record {
        inside = omega arith;
        same_marks = refl;
        same_back = refl;
        few = omega arith;
        noted = rw (none_undone u job)
            (record {
              ascending = u.tallied.table.ascending;
              markable = omega (arith, used_length u.tallied.table, u.tallied.table.fits, blank.markable);
              awaited = zeros_table 0 back₀ (omega arith) tt zeros;
              apart = λ j here. refl;
              become = none;
              right = u.tallied.right;
            });
      }

  module _ {i : ℕ} {ms : List Bool} {back : List ℕ} {n : Notes} (s : From i ms back n) (some : 0 < i) where
    pub may_note : MayNote (take c.tiles tiles) ms back n
    may_note =
        record {
          noted = as_noted s.noted;
          room = omega (arith, s.few, s.same_back, blank.room);
          few = omega (arith, ap length s.noted.become, undone_fits u job i, u.tallied.few);
        }

    pub takes : job_in (get_or es (i - 1) 0) ≡ job → (ms' : List Bool) (back' : List ℕ) (n' : Notes) → length ms' ≡ length ms → length back' ≡ length back
        → Foretold (take c.tiles tiles) (recovered (get_or es (i - 1) 0) (restored_by (take c.tiles tiles) ms back n)) ms' back' n' × (n'.coming ≤ n.coming + 1) → From (i - 1) ms' back' n'
    takes own ms' back' n' as-many-marks as-much-back done =
        let inside = s.inside in
        record {
          inside = omega arith;
          same_marks = as-many-marks ∙ s.same_marks;
          same_back = as-much-back ∙ s.same_back;
          few = omega (arith, s.few, done.1);
          noted = subst (λ l. Foretold (take c.tiles tiles) l ms' back' n')
              (ap (recovered (get_or es (i - 1) 0)) s.noted.become ∙ sym (undone_own u job some inside own)) done.0;
        }

    pub passes : job_in (get_or es (i - 1) 0) ≢ job → From (i - 1) ms back n
    passes other =
        let inside = s.inside in
        record {
          inside = omega arith;
          same_marks = s.same_marks;
          same_back = s.same_back;
          few = omega (arith, s.few);
          noted = rw (undone_other u job some inside other) s.noted;
        }
