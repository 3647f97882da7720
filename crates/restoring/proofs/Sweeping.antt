-- The pass that takes the marked tiles away: `left` tiles are kept so far, and those from i on are ahead
use mathlib.Core.Bool.{Bool, cond, false, not, true}
use mathlib.Core.List.{List, [], ◌++◌, ◌∷◌, append-nil}
use mathlib.Core.Path.{◌∙◌, ◌≡◌, ap, refl, sym}
use Prim.Native.Nat.{◌+◌, ◌<◌, ◌≤◌, ℕ}
use native.Mathlib.Numerals.{add-one}
use native.Mathlib.Omega.{arith}
use lib.ListN.{drop, get_or, length, length-set, set, take}
use lib.Seq.{append_snoc, drop-cons, drop-drop, drop-set-lt, length-take-le, slice, take-set-le, take-suc-set}
use Rattle.lists.specs.Lists.{slice_end, slice_next}
use Rattle.lists.specs.Truth.{one_if}
use Rattle.runs.specs.Runs.{Kept}
use Rattle.restoring.specs.Notes.{unmarked}

pub record Sweeping (ms : List Bool) (t₀ : List ℕ) (count : ℕ) (t : List ℕ) (i left : ℕ) : Type 0 where
  pub left_fits : left ≤ i
  pub within : i ≤ count
  pub same_length : length t ≡ length t₀
  pub same_ahead : drop i t ≡ drop i t₀
  pub whole : take left t ++ unmarked (drop i ms) (slice i count t₀) ≡ unmarked ms (take count t₀)

nothing_left : (ms : List Bool) → unmarked ms [] ≡ []
nothing_left [] = refl
nothing_left (m ∷ ms) = refl

module _ {ms : List Bool} {t₀ : List ℕ} {count : ℕ} (fits : count ≤ length t₀) (markable : count ≤ length ms) where
  pub starts : Sweeping ms t₀ count t₀ 0 0
  starts = record { left_fits = omega arith; within = omega arith; same_length = refl; same_ahead = refl; whole = refl }

  module _ {t : List ℕ} {i left : ℕ} (s : Sweeping ms t₀ count t i left) where
    pub ends : count ≤ i → Kept (unmarked ms (take count t₀)) t₀ count t left
    ends over =
        let done : i ≡ count = let w = s.within in omega arith in
        let none : unmarked (drop i ms) (slice i count t₀) ≡ [] = ap (unmarked (drop i ms)) (slice_end t₀ count i over) ∙ nothing_left (drop i ms) in
        let all : take left t ≡ unmarked ms (take count t₀) = sym (append-nil (take left t)) ∙ rw none at s.whole in
        let l = s.left_fits in
        let places = s.same_length in
        record {
          left_fits = omega arith;
          counted = sym (length-take-le left t (omega arith)) ∙ ap length all;
          in_front = all;
          same_behind = rw done at s.same_ahead;
        }

    module _ (inside : i < count) where
      abbrev tile : ℕ
      tile = get_or t i 0

      abbrev rest : List ℕ
      rest = unmarked (drop (i + 1) ms) (slice (i + 1) count t₀)

      -- the tile at hand is the one of old
      tile_same : tile ≡ get_or t₀ i 0
      tile_same =
          let a = drop-cons t i 0 (let e = s.same_length in omega arith) in
          let b = drop-cons t₀ i 0 (omega arith) in
          let e = s.same_ahead in
          ap (λ l. get_or l 0 0) (sym a ∙ e ∙ b)

      ahead : unmarked (drop i ms) (slice i count t₀) ≡ cond (get_or ms i false) rest (tile ∷ rest)
      ahead =
          let first : drop i ms ≡ get_or ms i false ∷ drop (i + 1) ms = rw add-one (drop-cons ms i false (omega arith)) in
          rw (first, slice_next t₀ count i fits inside, ← tile_same)

      kept : (m : Bool) → take (left + one_if (not m)) (set t left tile) ++ rest ≡ take left t ++ cond m rest (tile ∷ rest)
      kept true =
          let e : left + 0 ≡ left = omega arith in
          ap (λ l. l ++ rest) (ap (λ n. take n (set t left tile)) e ∙ take-set-le left t left tile (omega arith))
      kept false =
          let l = s.left_fits in
          let places = s.same_length in
          let more : take (left + 1) (set t left tile) ≡ take left t ++ (tile ∷ []) = rw add-one (take-suc-set t left tile (omega arith)) in
          ap (λ l. l ++ rest) more ∙ append_snoc (take left t) tile rest

      counted_on : (m : Bool) → left + one_if (not m) ≤ i + 1
      counted_on true = let l = s.left_fits in omega arith
      counted_on false = let l = s.left_fits in omega arith

      pub sweeps : (n : ℕ) → n ≡ one_if (not (get_or ms i false)) → Sweeping ms t₀ count (set t left tile) (i + 1) (left + n)
      sweeps n is =
          let l = s.left_fits in
          record {
            left_fits = rw is (counted_on (get_or ms i false));
            within = omega arith;
            same_length = length-set t left tile ∙ s.same_length;
            same_ahead = drop-set-lt (i + 1) t left tile (omega arith) ∙ sym (drop-drop 1 i t) ∙ ap (drop 1) s.same_ahead ∙ drop-drop 1 i t₀;
            whole = rw is (kept (get_or ms i false)) ∙ ap (λ r. take left t ++ r) (sym ahead) ∙ s.whole;
          }
