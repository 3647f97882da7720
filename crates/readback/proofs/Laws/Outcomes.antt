-- What the reader finds at a place, each outcome exactly
use Rattle.std.specs.Prelude.{Bool, ◌&&◌, ◌||◌, cond, false, not, true, List, [], ◌∷◌, ◌↔◌, ◌≢◌, ◌≡◌, refl, ◌+◌, ◌≤◌, ℕ, eqb, ltb, drop, get_or, take}
use Rattle.std.proofs.Math.Option.{Option, none, some}
use Rattle.std.proofs.Math.Path.{ap}
use Rattle.std.proofs.Common.{sym, drop_of_length-le, lt-ltb, ltb-true, ne_eqb}
use native.Mathlib.Omega.{arith}
use Rattle.std.proofs.Math.ListN.{length, length-drop}
use Rattle.std.proofs.lemmas.Bool.{eqb-false, not-false}
use Rattle.lists.specs.Truth.{both_false, never, or_left, or_right}
use Rattle.service.specs.declared.Read.TheVariants.{Cut, End, Malformed, Ruled, Whole}
use Rattle.service.specs.declared.Read.{Read}
use Rattle.service.specs.declared.Record.{Record}
use Rattle.readback.specs.Claims.{Missing, Tells}
use Rattle.readback.specs.Reading.{agree, field, field_length, front, heard, read_at, rule_field, whole}

-- which of the five it is
abbrev sort : Read → ℕ
sort (Whole r next) = 0
sort (Ruled next) = 1
sort End = 2
sort Cut = 3
sort Malformed = 4

whole_sort : (next : ℕ) (o : Option Record) → (sort (whole next o) ≢ 2) × (sort (whole next o) ≢ 3)
whole_sort next (some r) = (omega arith, omega arith)
whole_sort next none = (omega arith, omega arith)

rule_sort : (at : ℕ) (b : Bool) → (sort (cond b (Ruled at) Malformed) ≢ 2) × (sort (cond b (Ruled at) Malformed) ≢ 3)
rule_sort at true = (omega arith, omega arith)
rule_sort at false = (omega arith, omega arith)

abbrev inside : ℕ → ℕ → List ℕ → Read
inside at tag bs = cond (eqb tag 5) (rule_field at (get_or bs 2 0)) (whole (at + 3 + field_length tag) (field tag (take (field_length tag) (drop 2 bs))))

inside_sort : (at tag : ℕ) (bs : List ℕ) → (sort (inside at tag bs) ≢ 2) × (sort (inside at tag bs) ≢ 3)
inside_sort at tag bs = go (eqb tag 5)
  where
    go : (b : Bool) →
        let x = cond b (rule_field at (get_or bs 2 0)) (whole (at + 3 + field_length tag) (field tag (take (field_length tag) (drop 2 bs)))) in
        (sort x ≢ 2) × (sort x ≢ 3)
    go true = rule_sort (at + 4) (eqb at 0 && eqb (get_or bs 2 0) 2)
    go false = whole_sort (at + 3 + field_length tag) (field tag (take (field_length tag) (drop 2 bs)))

module _ (inner : Read) (other : (sort inner ≢ 2) × (sort inner ≢ 3)) where
  never_end : (x y : Bool) → cond x Malformed (cond y Cut inner) ≡ End → ⊥
  never_end true y e = let z = ap sort e in omega arith
  never_end false true e = let z = ap sort e in omega arith
  never_end false false e = other.0 (ap sort e)

  cut_first : (x y : Bool) → (cond x Malformed (cond y Cut inner) ≡ Cut) ↔ ((x ≡ false) × (y ≡ true))
  cut_first true y = (λ e. absurd (let z = ap sort e in omega arith), λ c. never c.0)
  cut_first false true = (λ e. (refl, refl), λ c. refl)
  cut_first false false = (λ e. absurd (other.1 (ap sort e)), λ c. never (sym c.1))

ended : (at : ℕ) (bs : List ℕ) → (front at bs ≡ End) ↔ (bs ≡ [])
ended at [] = (λ e. refl, λ e. refl)
ended at (tag ∷ bs) = (
  λ e. absurd (never_end (inside at tag bs) (inside_sort at tag bs) (eqb (field_length tag) 0 || not (agree bs (0 ∷ field_length tag ∷ []))) (ltb (length bs) (2 + field_length tag)) e),
  λ e. absurd (let z : ◌≡◌ {A = ℕ} 0 1 = cc in omega arith),
)

cut_there : (at : ℕ) (bs : List ℕ) → (front at bs ≡ Cut) ↔ Missing bs
cut_there at [] = (λ e. let z = ap sort e in omega arith, λ c. absurd c)
cut_there at (tag ∷ bs) =
    let right = agree bs (0 ∷ field_length tag ∷ []) in
    let x = cut_first (inside at tag bs) (inside_sort at tag bs) (eqb (field_length tag) 0 || not right) (ltb (length bs) (2 + field_length tag)) in (
      λ e. let c = x.0 e in
          (eqb-false _ _ (or_left (eqb (field_length tag) 0) (not right) c.0), not-false _ (or_right (eqb (field_length tag) 0) (not right) c.0), ltb-true _ _ c.1),
      λ c. x.1 (both_false (ne_eqb _ _ c.0) (ap not c.1), lt-ltb _ _ c.2),
    )

module _ (journal : List ℕ) (at : ℕ) where
  pub end_just : (read_at journal at ≡ End) ↔ (length journal ≤ at)
  unfolding read_at
  end_just =
      let x = ended at (drop at journal) in (
        λ e. let n = ap length (x.0 e) in let m = length-drop at journal in omega arith,
        λ l. x.1 (drop_of_length-le journal {i = at} l),
      )

  pub cut_just : (read_at journal at ≡ Cut) ↔ Missing (drop at journal)
  unfolding read_at
  cut_just = cut_there at (drop at journal)

-- WHAT IS TOLD OF IT
pub tells_so : (at : ℕ) (r : Read) → Tells at r (heard r at)
tells_so at (Whole r next) = (refl, refl, refl)
tells_so at (Ruled next) = (refl, refl, refl)
tells_so at End = (refl, refl, refl)
tells_so at Cut = (refl, refl, refl)
tells_so at Malformed = (refl, refl, refl)
