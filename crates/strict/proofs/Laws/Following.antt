-- The book follows the history
use Rattle.std.specs.Prelude.{List, [], ◌++◌, ◌∷◌, ◌≡◌, refl, ℕ}
use Rattle.std.proofs.Math.Option.{none}
use Rattle.std.proofs.Common.{◌∙◌, ap, ap₂, subst, sym}
use Rattle.strict.specs.Book.{Admitted, Book, book_after, held_by, others, recover}
use Rattle.strict.specs.Commutativity.{holder}
use Rattle.strict.specs.Histories.{Event, abort, commit, kept, open_job, operation, unfinished}
use Rattle.strict.proofs.Laws.Ending.{orderly_finish, orderly_strike, others_finish, others_strike, recover_run, run_finish}
use Rattle.strict.proofs.Laws.Holding.{found_one, holder_pinned, sheet_apart}
use Rattle.strict.proofs.Laws.Undoing.{Orderly, orderly_strict}
use Rattle.strict.specs.Operations.{Op, after, begun, of_sheet}
use Rattle.strict.specs.Strict.{Log, Strict, ◌▷◌, empty, run}
use Rattle.strict.specs.Tiles.{Ascending}
use Rattle.strict.specs.declared.Rule.{Rule}

-- the tiles are what the kept operations leave, and the table has the unfinished ones
pub record Follows (r : Rule) (m : Book) (s : List ℕ) (os : Log Op) : Type 0 where
  pub orderly : Orderly r s os
  pub tiles_run : m.tiles ≡ run s os
  pub table_unfinished : m.table ≡ unfinished os

pub same_book : {r : Rule} {m : Book} {s : List ℕ} {os : Log Op} → Follows r m s os → m ≡ record { tiles = run s os; table = unfinished os }
same_book i j = record { tiles = i.tiles_run j; table = i.table_unfinished j }

pub follows : (r : Rule) (s : List ℕ) (h : Log Event) → Ascending s → Admitted r s h → Follows r (book_after s h) s (kept s h)
follows r s empty asc a = record { orderly = tt; tiles_run = refl; table_unfinished = refl }
follows r s (h ▷ open_job j) asc a = follows r s h asc a.0
follows r s (h ▷ operation j sheet p k) asc a =
    let i = follows r s h asc a.0 in
    let t = run s (kept s h) in
    let o = of_sheet sheet (begun j p k t) in
    let free : holder r (begun j p k t) (unfinished (kept s h)) ≡ none = subst (λ m. held_by r m j p k ≡ none) (same_book i) a.2 in
    record {
      orderly = (i.orderly, refl, sym (holder_pinned r s o (kept s h) i.orderly refl refl) ∙ ap found_one (sheet_apart r sheet (begun j p k t) (unfinished (kept s h)) ∙ free));
      tiles_run = ap (λ u. after (begun j p k u) u) i.tiles_run;
      table_unfinished = ap₂ (λ u us. us ++ (of_sheet sheet (begun j p k u) ∷ [])) i.tiles_run i.table_unfinished;
    }
follows r s (h ▷ commit j) asc a =
    let i = follows r s h asc a.0 in
    record {
      orderly = orderly_finish r j s (kept s h) i.orderly;
      tiles_run = i.tiles_run ∙ sym (run_finish j s (kept s h));
      table_unfinished = ap (others j) i.table_unfinished ∙ others_finish j (kept s h);
    }
follows r s (h ▷ abort j) asc a =
    let i = follows r s h asc a.0 in
    record {
      orderly = orderly_strike r j s (kept s h) i.orderly;
      tiles_run = ap₂ (recover j) i.table_unfinished i.tiles_run ∙ recover_run r j s (kept s h) asc i.orderly;
      table_unfinished = ap (others j) i.table_unfinished ∙ others_strike j (kept s h);
    }

pub follows_strict : (r : Rule) (s : List ℕ) (h : Log Event) → Ascending s → Admitted r s h → Strict r s (kept s h)
follows_strict r s h asc a = orderly_strict r s (kept s h) asc (follows r s h asc a).orderly
