-- Tests of all members of a list, and what they say
use Rattle.std.specs.Prelude.{Bool, ◌&&◌, false, true, List, [], ◌++◌, ◌∷◌, ◌≡◌, refl, ◌+◌, ◌-◌, ◌<◌, ◌≤◌, suc, ℕ, eqb, get_or, length, replicate, set, take}
use Rattle.std.proofs.Math.Bool.{and-false, and-true}
use Rattle.std.proofs.Common.{◌∙◌, ap, ap₂, sym, add-one, arith, drop_of_length-le, length-take, eqb-true}
use Rattle.std.proofs.lemmas.List.Edits.{sets}
use Rattle.std.proofs.Math.Seq.{slice, slice-cons}
use Rattle.lists.specs.Truth.{and_both, both, eqb_same, never}

abbrev pub all_true : {A : Type 0} → (A → Bool) → List A → Bool
all_true f [] = true
all_true f (x ∷ xs) = f x && all_true f xs

abbrev pub All : {A : Type 0} → (A → Type 0) → List A → Type 0
All P [] = Unit {0}
All P (x ∷ xs) = P x × All P xs

module _ {A : Type 0} (f : A → Bool) (P : A → Type 0) where
  pub all_is : ((x : A) → f x ≡ true → P x) → (xs : List A) → all_true f xs ≡ true → All P xs
  all_is g [] e = tt
  all_is g (x ∷ xs) e = let p = both (f x) (all_true f xs) e in (g x p.0, all_is g xs p.1)

  pub is_all : ((x : A) → P x → f x ≡ true) → (xs : List A) → All P xs → all_true f xs ≡ true
  is_all g [] h = refl
  is_all g (x ∷ xs) h = and_both (g x h.0) (is_all g xs h.1)

-- two lists of the same numbers, as a test
abbrev pub same_numbers : List ℕ → List ℕ → Bool
same_numbers [] [] = true
same_numbers [] (y ∷ ys) = false
same_numbers (x ∷ xs) [] = false
same_numbers (x ∷ xs) (y ∷ ys) = eqb x y && same_numbers xs ys

pub numbers_same : (xs ys : List ℕ) → same_numbers xs ys ≡ true → xs ≡ ys
numbers_same [] [] e = refl
numbers_same [] (y ∷ ys) e = never (sym e)
numbers_same (x ∷ xs) [] e = never (sym e)
numbers_same (x ∷ xs) (y ∷ ys) e = let p = both (eqb x y) (same_numbers xs ys) e in ap₂ {C = List ℕ} (λ z zs. z ∷ zs) (eqb-true x y p.0) (numbers_same xs ys p.1)

pub same_numbers_lem : {xs ys : List ℕ} → xs ≡ ys → same_numbers xs ys ≡ true
same_numbers_lem {xs} e = ap (same_numbers xs) (sym e) ∙ go xs
  where
    go : (zs : List ℕ) → same_numbers zs zs ≡ true
    go [] = refl
    go (z ∷ zs) = and_both (eqb_same z) (go zs)

-- A PASS over the first n elements of a list: before the one at i, `slice i n l` is left
module _ (l : List ℕ) (n i : ℕ) where
  pub slice_end : n ≤ i → slice i n l ≡ []
  slice_end h = drop_of_length-le (take n l) {i = i} (simp length-take (omega arith))

  pub slice_next : n ≤ length l → i < n → slice i n l ≡ get_or l i 0 ∷ slice (i + 1) n l
  slice_next fits inside = rw add-one (slice-cons i n l 0 inside fits)

  -- a test of all that are left
  pub all_end : (f : ℕ → Bool) → n ≤ i → all_true f (slice i n l) ≡ true
  all_end f h = rw (slice_end h)

  pub flag_end : (f : ℕ → Bool) (b : Bool) → n ≤ i → (b && all_true f (slice i n l)) ≡ b
  flag_end f b h = ap (λ x. b && x) (all_end f h) ∙ and-true b

  -- whatever the tests of the element at i say
  module _ (fits : n ≤ length l) (inside : i < n) where
    pub all_turn : (f : ℕ → Bool) {b : Bool} → f (get_or l i 0) ≡ b → all_true f (slice i n l) ≡ (b && all_true f (slice (i + 1) n l))
    all_turn f e = rw (slice_next fits inside, e)

    -- and a flag that falls with the first test that fails
    pub flag_falls : (f : ℕ → Bool) (b : Bool) {b' : Bool} → f (get_or l i 0) ≡ false → b' ≡ false → (b && all_true f (slice i n l)) ≡ (b' && all_true f (slice (i + 1) n l))
    flag_falls f b e q = ap (λ x. b && x) (all_turn f e) ∙ and-false b ∙ ap (λ x. x && all_true f (slice (i + 1) n l)) (sym q)

    pub flag_stays : (f : ℕ → Bool) (b : Bool) {b' : Bool} → f (get_or l i 0) ≡ true → b' ≡ b → (b && all_true f (slice i n l)) ≡ (b' && all_true f (slice (i + 1) n l))
    flag_stays f b e q = ap (λ x. b && x) (all_turn f e) ∙ ap (λ x. x && all_true f (slice (i + 1) n l)) (sym q)

-- what is written behind what was written is written with it
pub sets_sets : (l : List ℕ) (i : ℕ) (xs ys : List ℕ) → sets (sets l i xs) (i + length xs) ys ≡ sets l i (xs ++ ys)
sets_sets l i [] ys = let e : i + 0 ≡ i = omega arith in ap (λ n. sets l n ys) e
sets_sets l i (x ∷ xs) ys =
    let e : i + suc (length xs) ≡ suc i + length xs = omega arith in
    ap (λ n. sets (sets (set l i x) (suc i) xs) n ys) e ∙ sets_sets (set l i x) (suc i) xs ys

-- a table of n places: what is used, and 0 behind it
abbrev pub padded : ℕ → List ℕ → List ℕ
padded n used = used ++ replicate (n - length used) 0
