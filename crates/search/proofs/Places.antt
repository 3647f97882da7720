-- The place of a key in an ascending list is where those below it end
use Rattle.std.proofs.Math.Nat.{two-pow-succ}
use Rattle.std.proofs.Math.Pow.{pow_mono}
use Rattle.lists.specs.Truth.{by_cond}
use Rattle.std.specs.Prelude.{◌≡◌, ◌+◌, ◌-◌, ◌*◌, ◌%◌, ◌^◌, ◌<◌, ◌≤◌, false, List, [], ◌∷◌, ltb, refl, suc, true, zero, ℕ}
use Rattle.std.proofs.Common.{◌∙◌, pow_pos, ap, arith, get_or, le-ltb, length, lt-ltb, ltb-false, ltb-true}
use Rattle.std.proofs.lemmas.List.Sorted.{IsNonDecreasingBy-from_default, IsPartitionedBy-ltb}
use Rattle.std.specs.List.Sorted.{IsPartitionPoint, IsPartitionedBy}
use Rattle.strict.proofs.Laws.Members.{above_ascending, above_less}
use Rattle.strict.specs.Tiles.{Above, Ascending}
use Rattle.search.specs.Table.{position_of}

above_at : (n i : ℕ) (s : List ℕ) → Above n s → i < length s → n < get_or s i 0
above_at n i [] a l = absurd (omega arith)
above_at n zero (x ∷ xs) a l = a.0
above_at n (suc i) (x ∷ xs) a l = above_at n i xs (above_less xs a.0 a.1) (omega arith)

-- the elements of an ascending list rise
pub rising : (s : List ℕ) → Ascending s → (i j : ℕ) → i ≤ j → j < length s → get_or s i 0 ≤ get_or s j 0
rising [] asc i j h l = absurd (omega arith)
rising (x ∷ xs) asc zero zero h l = omega arith
rising (x ∷ xs) asc zero (suc j) h l = let first = above_at x j xs asc (omega arith) in omega arith
rising (x ∷ xs) asc (suc i) zero h l = absurd (omega arith)
rising (x ∷ xs) asc (suc i) (suc j) h l = rising xs (above_ascending x xs asc) i j (omega arith) (omega arith)

pub ascending_parted : (k : ℕ) (s : List ℕ) → Ascending s → IsPartitionedBy (λ y. ltb y k) s
ascending_parted k s asc = IsPartitionedBy-ltb (λ y. y) s k (IsNonDecreasingBy-from_default (λ y. y) s 0 (rising s asc))

-- an index with all before it below k, and none from it on
pub place_at : (k : ℕ) (s : List ℕ) (i : ℕ) → i ≤ length s → ((j : ℕ) → j < i → get_or s j 0 < k) → (i < length s → k ≤ get_or s i 0) → i ≡ position_of k s
place_at k [] i l below behind = omega arith
place_at k (x ∷ xs) zero l below behind = rw (le-ltb x k (behind (omega arith))) refl
place_at k (x ∷ xs) (suc i) l below behind =
    rw (lt-ltb x k (below zero (omega arith))) (ap suc (place_at k xs i (omega arith) (λ j h. below (suc j) (omega arith)) (λ h. behind (omega arith))))

pub point_place : (k : ℕ) (s : List ℕ) (i : ℕ) → i ≤ length s → IsPartitionPoint (λ y. ltb y k ≡ true) (λ y. ltb y k ≡ false) s i → i ≡ position_of k s
point_place k s i l point =
    place_at k s i l (λ j h. ltb-true _ k (point.0 j 0 (omega arith) h)) (λ h. ltb-false _ k (point.1 i 0 (omega arith) h))

-- what one element tells of the place
pub below : (k i : ℕ) (s : List ℕ) → Ascending s → i < length s → get_or s i 0 < k → i < position_of k s
below k i [] asc l h = absurd (omega arith)
below k zero (x ∷ xs) asc l h = rw (lt-ltb x k h) (omega arith)
below k (suc i) (x ∷ xs) asc l h =
    let first = rising (x ∷ xs) asc 0 (suc i) (omega arith) l in
    let ih = below k i xs (above_ascending x xs asc) (omega arith) h in
    rw (lt-ltb x k (omega arith)) (omega arith)

pub not_below : (k i : ℕ) (s : List ℕ) → i < length s → k ≤ get_or s i 0 → position_of k s ≤ i
not_below k i [] l h = absurd (omega arith)
not_below k zero (x ∷ xs) l h = rw (le-ltb x k h) (omega arith)
not_below k (suc i) (x ∷ xs) l h =
    let ih = not_below k i xs (omega arith) h in
    by_cond (λ p. p ≤ suc i) (ltb x k) (λ _. omega arith) (λ _. omega arith)

pub at_most : (k : ℕ) (s : List ℕ) → position_of k s ≤ length s
at_most k [] = omega arith
at_most k (x ∷ xs) = let ih = at_most k xs in by_cond (λ p. p ≤ suc (length xs)) (ltb x k) (λ _. omega arith) (λ _. omega arith)

-- a step by a bit
pub record Step (n : ℕ) : Type 0 where
  pub is : 1 * 2 ^ (n - 1) % 18446744073709551616 ≡ 2 ^ (n - 1)
  pub small : 2 ^ (n - 1) ≤ 2147483648
  pub some : 0 < 2 ^ (n - 1)
  pub twice : 2 ^ n ≡ 2 ^ (n - 1) + 2 ^ (n - 1)

pub step : (n : ℕ) → 0 < n → n ≤ 32 → Step n
step n some fits =
    let small : 2 ^ (n - 1) ≤ 2 ^ 31 = pow_mono {i = n - 1} {j = 31} (omega arith) in
    let again : n ≡ suc (n - 1) = omega arith in
    record { is = omega arith; small = small; some = pow_pos (n - 1); twice = ap (λ m. 2 ^ m) again ∙ two-pow-succ (n - 1) }
