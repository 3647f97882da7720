-- The nearest later entry of each slot: what a slot says, and what recording an entry does
use mathlib.Core.Bool.{Bool, ◌&&◌, and-false, false, not, true}
use mathlib.Core.List.{List, ◌∷◌}
use mathlib.Core.Path.{◌∙◌, ◌≡◌, ap, sym}
use Prim.Native.Nat.{◌+◌, ◌-◌, ◌<◌, ◌≤◌, suc, zero, ℕ}
use native.Mathlib.Omega.{arith}
use lib.Dec.{eqb}
use lib.ListN.{drop, get_or, get_or-replicate, length, replicate, set}
use lib.Seq.{drop-cons, get_or-set_other, get_or-set_same, slice}
use native.Mathlib.Numerals.{add-one}
use borrow.Author.Tests.{ne_eqb}
use Rattle.lists.specs.Lists.{all_true, slice_end, slice_next}
use Rattle.lists.specs.Truth.{Same, and_both, both, other, same, same?}
use Rattle.service.specs.Entry.{key_in}
use Rattle.chains.specs.Chains.{near_slot}

-- an entry is not one of those that are recorded, or has another tile
abbrev pub passed_by : (ℕ → Bool) → ℕ → ℕ → Bool
passed_by recorded key f = not (recorded f && eqb key (key_in f))

-- from the place i on the first entry of the tile that is recorded, if there is one, stands not before `from`
pub record Reaches (recorded : ℕ → Bool) (key : ℕ) (l : List ℕ) (i from : ℕ) : Type 0 where
  pub low : i ≤ from
  pub high : from ≤ length l
  pub free : all_true (passed_by recorded key) (slice i from l) ≡ true

abbrev pub Nearest : (ℕ → Bool) → List ℕ → List ℕ → ℕ → Type 0
Nearest recorded l near i = (key : ℕ) → Reaches recorded key l i (length l - get_or near (near_slot key) 0)

pub drop_next : (l : List ℕ) (i : ℕ) → i < length l → drop i l ≡ get_or l i 0 ∷ drop (i + 1) l
drop_next l i inside = rw (add-one, drop-cons l i 0 inside)

-- what passes such entries by says the same from both places
module _ {A : Type 0} (F : List ℕ → A) (test : ℕ → Bool) (passes : (f : ℕ) (fs : List ℕ) → test f ≡ true → F (f ∷ fs) ≡ F fs)
    (l : List ℕ) (from : ℕ) (fits : from ≤ length l) where
  same_by : (d i : ℕ) → i + d ≡ from → all_true test (slice i from l) ≡ true → F (drop i l) ≡ F (drop from l)
  same_by zero i e free = let here : i ≡ from = omega arith in ap (λ x. F (drop x l)) here
  same_by (suc d) i e free =
      let p = both (test (get_or l i 0)) (all_true test (slice (i + 1) from l)) (sym (ap (all_true test) (slice_next l from i fits (omega arith))) ∙ free) in
      ap F (drop_next l i (omega arith)) ∙ passes (get_or l i 0) (drop (i + 1) l) p.0 ∙ same_by d (i + 1) (omega arith) p.1

  pub same_from : (i : ℕ) → i ≤ from → all_true test (slice i from l) ≡ true → F (drop i l) ≡ F (drop from l)
  same_from i low free = same_by (from - i) i (omega arith) free

module _ (recorded : ℕ → Bool) (l : List ℕ) where
  pub near_start : Nearest recorded l (replicate 16384 0) (length l)
  near_start key =
      rw (get_or-replicate {A = ℕ} 16384 (near_slot key) 0 0 (omega arith)) (record { low = omega arith; high = omega arith; free = rw (slice_end l (length l - 0) (length l) (omega arith)) })

  module _ (i : ℕ) (inside : i < length l) where
    one_before : (key from : ℕ) → passed_by recorded key (get_or l i 0) ≡ true → Reaches recorded key l (i + 1) from → Reaches recorded key l i from
    one_before key from e h =
        let low = h.low in
        let high = h.high in
        record { low = omega arith; high = high; free = rw (slice_next l from i (omega arith) (omega arith)) (and_both e h.free) }

    -- an entry that is not recorded
    pub near_passed : (near : List ℕ) → recorded (get_or l i 0) ≡ false → Nearest recorded l near (i + 1) → Nearest recorded l near i
    near_passed near e h key = one_before key _ (rw e) (h key)

    -- and one that is
    pub near_recorded : (near : List ℕ) (s : ℕ) → s ≡ near_slot (key_in (get_or l i 0)) → s < length near → Nearest recorded l near (i + 1)
        → Nearest recorded l (set near s (length l - i)) i
    near_recorded near s own small h key = go (same? (near_slot key) s)
      where
        go : Same (near_slot key) s → Reaches recorded key l i (length l - get_or (set near s (length l - i)) (near_slot key) 0)
        go (same p q) =
            rw (p, get_or-set_same near s (length l - i) 0 small)
            (record { low = omega arith; high = omega arith; free = rw (slice_end l (length l - (length l - i)) i (omega arith)) })
        go (other n q) =
            let differs = ne_eqb key (key_in (get_or l i 0)) (λ e. n (ap near_slot e ∙ sym own)) in
            rw (get_or-set_other near s (near_slot key) (length l - i) 0 n) (one_before key _ (rw differs (ap not (and-false (recorded (get_or l i 0))))) (h key))
