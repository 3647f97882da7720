-- The tests as the code asks them, each by one function, and what the first of them say for the later ones
use mathlib.Core.Bool.{Bool, ◌&&◌, and_assoc, and-true, true}
use mathlib.Core.List.{List, [], ◌∷◌}
use mathlib.Core.Path.{◌∙◌, ◌≡◌, ap, refl, sym}
use Prim.Native.Nat.{◌+◌, ◌-◌, ◌≤◌, suc, zero, ℕ}
use native.Mathlib.Omega.{arith}
use lib.Dec.{leb, leb-zero}
use lib.ListN.{drop, length, length-replicate, length-take, replicate, take}
use borrow.Author.Tests.{eq-eqb, le-leb}
use Rattle.lists.specs.Lists.{All, all_is, all_true, same_numbers_lem}
use Rattle.lists.specs.Truth.{both}
use Rattle.scans.specs.Tests.{all_entries, sorted_keys}
use Rattle.grid.specs.Levels.{levels_of}
use Rattle.grid.specs.Tile.{is_key}
use Rattle.service.specs.Calls.{fresh, start_world}
use Rattle.service.proofs.Laws.Soundness.{ascending_is}
use Rattle.service.specs.Sound.{every, journal_tests, settled_B, sound_B, tabled_B, zeros}
use Rattle.service.specs.World.{world}
use Rattle.service.specs.declared.Session.{Session}
use Rattle.strict.specs.Book.{spoken_by}
use Rattle.strict.proofs.Laws.Room.{nothing_spoken}
use Rattle.strict.specs.declared.Rule.{Rule}
use Rattle.strict.specs.Tiles.{Ascending}
use Rattle.soundness.specs.Tests.{count_tests, fresh_tests}

-- THE TABLES
module _ (s : Session) (t o : List ℕ) where
  -- the tests of the tables, by the function that computes them
  abbrev pub parts : List Bool
  parts =
      every (count_tests s.tiles s.operations t o)
      ∷ (sorted_keys (take s.tiles t) && zeros (drop s.tiles t))
      ∷ all_entries s.marks (take s.operations o)
      ∷ zeros (drop s.operations o)
      ∷ settled_B s.rule (take s.tiles t) (take s.operations o)
      ∷ every (fresh_tests s (take s.tiles t) (take s.operations o) (length t))
      ∷ []

  pub tabled_parts : tabled_B (world s t o []) ≡ every parts
  unfolding tabled_B
  tabled_parts = simp (and_assoc, and-true)

  -- what the first tests say
  pub keys_ascending : (sorted_keys (take s.tiles t) && zeros (drop s.tiles t)) ≡ true → Ascending (take s.tiles t)
  keys_ascending e = ascending_is (take s.tiles t) (both (all_true is_key (take s.tiles t)) _ (both (sorted_keys (take s.tiles t)) _ e).0).1

  pub keys_valid : (sorted_keys (take s.tiles t) && zeros (drop s.tiles t)) ≡ true → All (λ k. is_key k ≡ true) (take s.tiles t)
  keys_valid e = all_is is_key (λ k. is_key k ≡ true) (λ x y. y) (take s.tiles t) (both (all_true is_key (take s.tiles t)) _ (both (sorted_keys (take s.tiles t)) _ e).0).0

-- A START
-- cleared operation places pass the test of what is behind the used ones
zeros_again : (n : ℕ) → zeros (replicate n 0) ≡ true
zeros_again zero = refl
zeros_again (suc n) = zeros_again n

module _ (r : Rule) (t : List ℕ) (count : ℕ) (o j : List ℕ) where
  -- what is left of the tests where no job is open and no operation is used
  abbrev pub starts : List Bool
  starts =
      every (count_tests count 0 t o)
      ∷ (sorted_keys (take count t) && zeros (drop count t))
      ∷ leb (length j) 65536
      ∷ []

  -- they are as many as they were
  counts_again : count_tests count 0 t (replicate (length o) 0) ≡ count_tests count 0 t o
  counts_again = rw (length-replicate {A = ℕ} (length o) 0)

  -- nothing is spoken for besides
  used_few : length (take count t) + spoken_by r (take count t) [] ≤ length t
  used_few = rw (nothing_spoken r (take count t)) (simp length-take (omega arith))

  pub start_parts : sound_B (start_world r t count o j) ≡ every starts
  unfolding sound_B tabled_B
  start_parts =
      ap (λ b. b && every (journal_tests (start_world r t count o j))) (tabled_parts (fresh r count (take count t)) t (replicate (length o) 0))
      ∙ (λ i. every (every (counts_again i) ∷ (sorted_keys (take count t) && zeros (drop count t)) ∷ true ∷ zeros_again (length o) i ∷ true ∷ every (le-leb _ _ used_few i ∷ same_numbers_lem {xs = levels_of (take count t)} refl i ∷ eq-eqb _ _ (sym (nothing_spoken r (take count t))) i ∷ []) ∷ [])
      && every (leb (length j) 65536 ∷ leb-zero (length j) i ∷ leb-zero (length j - 0) i ∷ []))
      ∙ simp (and_assoc, and-true)
