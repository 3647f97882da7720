-- A pass from the last entry to the first, by either rule: those from i on are settled just where the one at i is and those behind it are
use Rattle.std.specs.Prelude.{Bool, ◌&&◌, false, true, List, ◌∷◌, ◌≡◌, refl, ◌+◌, ◌<◌, ◌≤◌, suc, zero, ℕ, eqb, drop, get_or, length}
use Rattle.std.proofs.Math.Bool.{and-false}
use Rattle.std.proofs.Common.{◌∙◌, ap, add-one, arith}
use Rattle.std.proofs.Math.Seq.{drop-cons}
use Rattle.lists.specs.Truth.{or_left, or_right}
use Rattle.strict.specs.declared.Rule.{Rule}
use Rattle.service.specs.Entry.{kind_in}
use Rattle.service.specs.Sound.{changing, settled_B}
use Rattle.settling.specs.Tests.{settled_at}

module _ (r : Rule) (t l : List ℕ) where
  pub settled_back : (i : ℕ) → i < length l → {a : Bool} → settled_at r t (drop (i + 1) l) (get_or l i 0) ≡ a → settled_B r t (drop i l) ≡ (a && settled_B r t (drop (i + 1) l))
  settled_back i inside e =
      let next : drop i l ≡ get_or l i 0 ∷ drop (i + 1) l = rw add-one (drop-cons l i 0 inside) in
      ap (settled_B r t) next ∙ ap (λ b. b && settled_B r t (drop (i + 1) l)) e

  -- what is not settled from some place on is not settled as a whole
  pub not_settled : (i : ℕ) → i ≤ length l → settled_B r t (drop i l) ≡ false → settled_B r t l ≡ false
  not_settled zero inside e = e
  not_settled (suc i) inside e =
      not_settled i (omega arith) (settled_back i (omega arith) refl ∙ rw (add-one, e) (and-false (settled_at r t (drop (suc i) l) (get_or l i 0))))

-- an entry that changed nothing is settled
pub unchanged_settled : (r : Rule) (t later : List ℕ) (e : ℕ) → changing (kind_in e) ≡ false → settled_at r t later e ≡ true
unchanged_settled r t later e h = rw (or_left (eqb (kind_in e) 1) (eqb (kind_in e) 3) h, or_right (eqb (kind_in e) 1) (eqb (kind_in e) 3) h)
