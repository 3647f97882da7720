-- Truth values, and numbers that are the same or not
use Rattle.std.proofs.Common.{◌∙◌, ap, ap₂, subst, sym, eq-eqb, eqb-true}
use Rattle.std.specs.Prelude.{◌≡◌, refl, Bool, ◌&&◌, ◌||◌, cond, false, not, true, ℕ, T, eqb}
use Rattle.std.specs.Bool.{beq}
use Rattle.std.proofs.lemmas.Bool.{eqb-false, not-false, not-true}

pub never : {A : Type 0} → true ≡ false → A
never e = absurd (subst T e tt)

-- by cases on a test
pub by_cond : {A : Type 0} (P : A → Type 0) (b : Bool) {u v : A} → (b ≡ true → P u) → (b ≡ false → P v) → P (cond b u v)
by_cond P true f g = f refl
by_cond P false f g = g refl

abbrev pub one_if : Bool → ℕ
one_if true = 1
one_if false = 0

-- what a test that was turned round says
pub test_fails : {answer is : Bool} → answer ≡ is → not answer ≡ true → is ≡ false
test_fails e h = sym e ∙ not-true _ h

pub test_passes : {answer is : Bool} → answer ≡ is → not answer ≡ false → is ≡ true
test_passes e h = sym e ∙ not-false _ h

-- && and ||
pub both : (a b : Bool) → a && b ≡ true → (a ≡ true) × (b ≡ true)
both true b e = (refl, e)
both false b e = never (sym e)

pub and_both : {a b : Bool} → a ≡ true → b ≡ true → a && b ≡ true
and_both p q = ap₂ ◌&&◌ p q

pub or_left : (a b : Bool) → a || b ≡ false → a ≡ false
or_left true b e = e
or_left false b e = refl

pub or_right : (a b : Bool) → a || b ≡ false → b ≡ false
or_right true b e = never e
or_right false b e = e

pub or_true : (a : Bool) {b : Bool} → b ≡ true → a || b ≡ true
or_true true e = refl
or_true false e = e

pub both_false : {a b : Bool} → a ≡ false → b ≡ false → a || b ≡ false
both_false p q = ap₂ ◌||◌ p q

-- two truth values that pass the test of equality
pub same_bool : (a b : Bool) → beq a b ≡ true → a ≡ b
same_bool true true e = refl
same_bool true false e = sym e
same_bool false true e = e
same_bool false false e = refl

pub bool_same : {a b : Bool} → a ≡ b → beq a b ≡ true
bool_same {a} e = ap (beq a) (sym e) ∙ go a
  where
    go : (c : Bool) → beq c c ≡ true
    go true = refl
    go false = refl

-- i = j or not, with what the test says of it
pub data Same (i j : ℕ) : Type 0 where
  same : i ≡ j → eqb i j ≡ true → Same i j
  other : (i ≡ j → ⊥) → eqb i j ≡ false → Same i j

pub same? : (i j : ℕ) → Same i j
same? i j = go (eqb i j) refl
  where
    go : (b : Bool) → eqb i j ≡ b → Same i j
    go true e = same (eqb-true i j e) e
    go false e = other (eqb-false i j e) e

pub eqb_same : (i : ℕ) → eqb i i ≡ true
eqb_same i = eq-eqb i i refl
