-- The sizes of sets of tiles
use Rattle.std.specs.Prelude.{Bool, ◌||◌, false, true, List, [], ◌∷◌, ◌≢◌, ◌≡◌, refl, ◌+◌, ◌≤◌, suc, ℕ, eqb, ltb, length}
use Rattle.std.proofs.Math.Bool.{or-true}
use Rattle.std.proofs.Common.{◌∙◌, ap, sym, arith, eqb-true, ltb-true, ne_eqb}
use Rattle.lists.specs.Truth.{Same, by_cond, eqb_same, never, one_if, other, same, same?}
use Rattle.strict.proofs.Laws.Members.{above_ascending, member_ge, not_own}
use Rattle.strict.specs.Tiles.{Ascending, delete, insert_tile, member}

pub length_insert : (k : ℕ) (s : List ℕ) → Ascending s → length (insert_tile k s) + one_if (member k s) ≡ length s + 1
length_insert k [] asc = refl
length_insert k (x ∷ xs) asc =
    let ih = length_insert k xs (above_ascending x xs asc) in
    by_cond P (ltb k x) below (λ _. by_cond P (eqb k x) (λ e. rw e) (λ e. rw e (omega arith)))
  where
    P : List ℕ → Type 0
    P l = length l + one_if (member k (x ∷ xs)) ≡ suc (length xs) + 1

    below : ltb k x ≡ true → suc (suc (length xs)) + one_if (member k (x ∷ xs)) ≡ suc (length xs) + 1
    below e = go (member k (x ∷ xs)) refl
      where
        go : (b : Bool) → member k (x ∷ xs) ≡ b → suc (suc (length xs)) + one_if b ≡ suc (length xs) + 1
        go true m = let h₁ = member_ge k x xs asc m in let h₂ = ltb-true k x e in absurd (omega arith)
        go false m = omega arith

pub length_delete : (k : ℕ) (s : List ℕ) → Ascending s → length (delete k s) + one_if (member k s) ≡ length s
length_delete k [] asc = refl
length_delete k (x ∷ xs) asc =
    let ih = length_delete k xs (above_ascending x xs asc) in
    by_cond P (eqb k x) (λ e. rw e (own e ih)) (λ e. rw e (omega arith))
  where
    P : List ℕ → Type 0
    P l = length l + one_if (member k (x ∷ xs)) ≡ suc (length xs)

    own : eqb k x ≡ true → length (delete k xs) + one_if (member k xs) ≡ length xs → length (delete k xs) + 1 ≡ suc (length xs)
    own e ih = let h₁ = rw (ap (λ z. member z xs) (eqb-true k x e) ∙ not_own x xs asc) at ih in omega arith

pub sub_length : (a b : List ℕ) → Ascending a → Ascending b → ((k : ℕ) → member k a ≡ true → member k b ≡ true) → length a ≤ length b
sub_length [] b asc bsc f = omega arith
sub_length (x ∷ xs) [] asc bsc f = never (sym (f x (ap (λ b. b || member x xs) (eqb_same x))))
sub_length (x ∷ xs) (y ∷ ys) asc bsc f =
    go (same? x y) (sub_length xs ys (above_ascending x xs asc) (above_ascending y ys bsc)) (sub_length (x ∷ xs) ys asc (above_ascending y ys bsc))
  where
    past : (k : ℕ) → member k (x ∷ xs) ≡ true → k ≢ y → member k ys ≡ true
    past k m d = sym (ap (λ b. b || member k ys) (ne_eqb k y d)) ∙ f k m

    go : Same x y → (((k : ℕ) → member k xs ≡ true → member k ys ≡ true) → length xs ≤ length ys)
        → (((k : ℕ) → member k (x ∷ xs) ≡ true → member k ys ≡ true) → suc (length xs) ≤ length ys) → suc (length xs) ≤ suc (length ys)
    go (same p q) r₁ r₂ =
        let h = r₁ (λ k m. past k (ap (λ b. eqb k x || b) m ∙ or-true (eqb k x)) (λ e. never (sym m ∙ ap (λ z. member z xs) (e ∙ sym p) ∙ not_own x xs asc))) in
        omega arith
    go (other p q) r₁ r₂ =
        let h = r₂ (λ k m. past k m (λ e.
        let h₁ = member_ge k x xs asc m in
        let h₂ = member_ge x y ys bsc (f x (ap (λ b. b || member x xs) (eqb_same x))) in
        let h₃ : x ≢ y = p in
        absurd (omega arith))) in
        omega arith
