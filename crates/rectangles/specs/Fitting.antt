-- What the pass that carries out a list of keys rests on, from its first turn to its last
use Rattle.std.specs.Prelude.{false, true, List, ◌≡◌, ◌*◌, ◌+◌, ◌≤◌, ℕ, length}
use Rattle.std.proofs.Math.Option.{none}
use Rattle.lists.specs.Lists.{All}
use Rattle.strict.specs.Book.{places_taken}
use Rattle.strict.specs.declared.Procedure.{Procedure}
use Rattle.grid.specs.Tile.{is_key}
use Rattle.grid.specs.declared.Address.{Address}
use Rattle.service.specs.Admission.{open_marks}
use Rattle.service.specs.Claims.{Serves}
use Rattle.service.specs.Limits.{job_count, operation_size, short_size}
use Rattle.service.specs.World.{World, free_bytes, state}
use Rattle.rectangles.specs.Claims.{Apart}
use Rattle.rectangles.specs.Rectangles.{carried_all, first_held, needed, unplaced}

-- every address has a key
abbrev pub Placed : List Address → Type 0
Placed xs = All (λ a. unplaced a ≡ false) xs

-- 1, 2 and 3 do not refuse, nor do 6, 7, 8 and 9 the list
pub record Fits (w : World) (job : ℕ) (p : Procedure) (ks : List ℕ) : Type 0 where
  pub ready : Serves w job
  pub unheld : first_held w.session.rule (state w).book job p ks ≡ none
  pub places : places_taken w.session.rule (state w).book + needed w.session.rule (state w).book job p ks ≤ length w.tiles
  pub slots : length (state w).book.table + length ks ≤ length w.operations
  pub bytes : operation_size * length ks + short_size * open_marks w.session.marks ≤ free_bytes w

-- from turn to turn: what is ahead is what was ahead at the beginning
pub record Ahead (job sheet : ℕ) (p : Procedure) (w₀ : World) (ks₀ : List ℕ) (w : World) (ks : List ℕ) : Type 0 where
  pub valid : All (λ k. is_key k ≡ true) ks
  pub apart : Apart ks
  pub fits : Fits w job p ks
  pub ahead : carried_all w job sheet p ks ≡ carried_all w₀ job sheet p ks₀
  pub same_places : length w.tiles ≡ length w₀.tiles
  pub same_slots : length w.operations ≡ length w₀.operations
  pub same_journal : length w.journal ≡ length w₀.journal
  pub all_jobs : length w.session.marks ≡ job_count
