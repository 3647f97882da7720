-- The pass that takes a run out, from the front: `left` tiles are kept so far, and those from i on are ahead
use mathlib.Core.Bool.{Bool, false, true}
use mathlib.Core.List.{List, [], ◌++◌, ◌∷◌, append-nil}
use mathlib.Core.Path.{◌∙◌, ◌≡◌, ap, refl, subst, sym}
use Prim.Native.Nat.{◌+◌, ◌<◌, ◌≤◌, ℕ}
use native.Mathlib.Numerals.{add-one}
use native.Mathlib.Omega.{arith}
use lib.Dec.{ltb}
use lib.ListN.{drop, drop_of_length-le, get_or, length, length-set, set, take}
use lib.Seq.{append_snoc, drop-cons, drop-drop, drop-set-lt, length-take-le, slice, take-suc-set}
use borrow.Author.Tests.{eq-eqb, ltb-false, ltb-true, ne_eqb}
use Rattle.lists.specs.Lists.{slice_end, slice_next}
use Rattle.strict.proofs.Laws.Members.{above_less}
use Rattle.strict.specs.Operations.{clear}
use Rattle.strict.specs.Tiles.{Above, Ascending, delete}
use Rattle.runs.specs.Runs.{Kept, apply_all}
use Rattle.runs.proofs.Ascents.{ascending_drop, behind}

-- a key below all is not there
delete_above : (k : ℕ) (s : List ℕ) → Above k s → delete k s ≡ s
delete_above k [] a = refl
delete_above k (x ∷ s) a =
    let h = a.0 in
    rw (ne_eqb k x (λ e. omega arith)) (behind (delete_above k s (above_less s a.0 a.1)))

-- the first tile, and the first key
clear_below : (k x : ℕ) (ks xs : List ℕ) → k < x → Above x xs → apply_all clear (k ∷ ks) (x ∷ xs) ≡ apply_all clear ks (x ∷ xs)
clear_below k x ks xs h a = ap (apply_all clear ks) (delete_above k (x ∷ xs) (h, a))

clear_own : (k x : ℕ) (ks xs : List ℕ) → k ≡ x → apply_all clear (k ∷ ks) (x ∷ xs) ≡ apply_all clear (k ∷ ks) xs
clear_own k x ks xs e = rw (eq-eqb k x e)

clear_apart : (x : ℕ) (ks xs : List ℕ) → Above x ks → apply_all clear ks (x ∷ xs) ≡ x ∷ apply_all clear ks xs
clear_apart x [] xs a = refl
clear_apart x (k ∷ ks) xs a =
    let h = a.0 in
    rw (ne_eqb k x (λ e. omega arith)) (clear_apart x ks (delete k xs) (above_less ks a.0 a.1))

clear_none : (ks : List ℕ) → apply_all clear ks [] ≡ []
clear_none [] = refl
clear_none (k ∷ ks) = clear_none ks

pub record Keeping (ks t₀ : List ℕ) (count : ℕ) (t : List ℕ) (i at left : ℕ) : Type 0 where
  pub left_fits : left ≤ i
  pub within : i ≤ count
  pub keys_fit : at ≤ length ks
  pub same_length : length t ≡ length t₀
  pub same_ahead : drop i t ≡ drop i t₀
  pub whole : take left t ++ apply_all clear (drop at ks) (slice i count t₀) ≡ apply_all clear ks (take count t₀)

module _ {ks t₀ : List ℕ} {count : ℕ} (fits : count ≤ length t₀) where
  pub starts : Keeping ks t₀ count t₀ 0 0 0
  starts = record { left_fits = omega arith; within = omega arith; keys_fit = omega arith; same_length = refl; same_ahead = refl; whole = refl }

  module _ (ascends : Ascending ks) (ordered : Ascending (take count t₀)) {t : List ℕ} {i at left : ℕ} (k : Keeping ks t₀ count t i at left) where
    pub ends : count ≤ i → Kept (apply_all clear ks (take count t₀)) t₀ count t left
    ends over =
        let done : i ≡ count = let w = k.within in omega arith in
        let none : apply_all clear (drop at ks) (slice i count t₀) ≡ [] = ap (apply_all clear (drop at ks)) (slice_end t₀ count i over) ∙ clear_none (drop at ks) in
        let all : take left t ≡ apply_all clear ks (take count t₀) = sym (append-nil (take left t)) ∙ rw none at k.whole in
        let l = k.left_fits in
        let places = k.same_length in
        record {
          left_fits = omega arith;
          counted = sym (length-take-le left t (omega arith)) ∙ ap length all;
          in_front = all;
          same_behind = rw done at k.same_ahead;
        }

    module _ (inside : i < count) where
      abbrev tile : ℕ
      tile = get_or t i 0

      -- the tile at hand is the one of old
      tile_same : tile ≡ get_or t₀ i 0
      tile_same =
          let a = drop-cons t i 0 (let e = k.same_length in omega arith) in
          let b = drop-cons t₀ i 0 (omega arith) in
          let e = k.same_ahead in
          ap (λ l. get_or l 0 0) (sym a ∙ e ∙ b)

      ahead : slice i count t₀ ≡ tile ∷ slice (i + 1) count t₀
      ahead = slice_next t₀ count i fits inside ∙ ap {B = List ℕ} (λ x. x ∷ slice (i + 1) count t₀) (sym tile_same)

      above : Above tile (slice (i + 1) count t₀)
      above = subst Ascending ahead (ascending_drop i (take count t₀) ordered)

      next_ahead : drop (i + 1) t ≡ drop (i + 1) t₀
      next_ahead = sym (drop-drop 1 i t) ∙ ap (drop 1) k.same_ahead ∙ drop-drop 1 i t₀

      first_key : at < length ks → drop at ks ≡ get_or ks at 0 ∷ drop (at + 1) ks
      first_key h = rw add-one (drop-cons ks at 0 h)

      -- a key below the tile is passed
      pub passes : at < length ks → get_or ks at 0 < tile → Keeping ks t₀ count t i (at + 1) left
      passes more lower =
          record {
            left_fits = k.left_fits;
            within = k.within;
            keys_fit = omega arith;
            same_length = k.same_length;
            same_ahead = k.same_ahead;
            whole = ap (λ r. take left t ++ r) (sym (rw (ahead, first_key more) (clear_below (get_or ks at 0) tile (drop (at + 1) ks) (slice (i + 1) count t₀) lower above))) ∙ k.whole;
          }

      -- a tile that is the next key goes
      pub goes : at < length ks → get_or ks at 0 ≡ tile → Keeping ks t₀ count t (i + 1) at left
      goes more same =
          record {
            left_fits = let h = k.left_fits in omega arith;
            within = omega arith;
            keys_fit = k.keys_fit;
            same_length = k.same_length;
            same_ahead = next_ahead;
            whole = ap (λ r. take left t ++ r) (sym (rw (ahead, first_key more) (clear_own (get_or ks at 0) tile (drop (at + 1) ks) (slice (i + 1) count t₀) same))) ∙ k.whole;
          }

      -- and any other stays
      above_keys : (at < length ks → tile < get_or ks at 0) → Above tile (drop at ks)
      above_keys m = go (ltb at (length ks)) refl
        where
          go : (b : Bool) → ltb at (length ks) ≡ b → Above tile (drop at ks)
          go true e =
              let h = ltb-true at (length ks) e in
              rw (first_key h) (m h, subst Ascending (first_key h) (ascending_drop at ks ascends))
          go false e = rw (drop_of_length-le ks {i = at} (ltb-false at (length ks) e)) tt

      pub stays : (at < length ks → tile < get_or ks at 0) → Keeping ks t₀ count (set t left tile) (i + 1) at (left + 1)
      stays m =
          let l = k.left_fits in
          let places = k.same_length in
          let rest = apply_all clear (drop at ks) (slice (i + 1) count t₀) in
          let more : take (left + 1) (set t left tile) ≡ take left t ++ (tile ∷ []) = rw add-one (take-suc-set t left tile (omega arith)) in
          let first : apply_all clear (drop at ks) (slice i count t₀) ≡ tile ∷ rest = rw ahead (clear_apart tile (drop at ks) (slice (i + 1) count t₀) (above_keys m)) in
          record {
            left_fits = omega arith;
            within = omega arith;
            keys_fit = k.keys_fit;
            same_length = length-set t left tile ∙ k.same_length;
            same_ahead = drop-set-lt (i + 1) t left tile (omega arith) ∙ next_ahead;
            whole = ap (λ f. f ++ rest) more ∙ append_snoc (take left t) tile rest ∙ ap (λ r. take left t ++ r) (sym first) ∙ k.whole;
          }
