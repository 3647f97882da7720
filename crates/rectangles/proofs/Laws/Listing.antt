-- The list of a rectangle: its tiles, each once
use Rattle.std.specs.Prelude.{Bool, ◌||◌, cond, false, true, List, ◌∷◌, map, ◌≢◌, ◌⊎◌, ◌≡◌, refl, ◌%◌, ◌*◌, ◌+◌, ◌-◌, ◌/◌, ◌<◌, ◌≤◌, suc, zero, ℕ, eqb, ltb, ◌+ℤ◌, negsuc, pos, ℤ, length, ◌<ℤ◌, ◌≤ℤ◌}
use Rattle.std.proofs.Math.Bool.{or-true}
use Rattle.std.proofs.Common.{inl, inr, ⊎_elim, ◌∙◌, ap, sym, div-add-mod', mod-eq_of_lt, mod-lt, suc-mul, arith, leb→le, le→leb, lt→ltb, eq-eqb, le-ltb, lt-ltb, ltb-false, ltb-true}
use Rattle.std.proofs.Math.Nat.{add-mul-mod_self_right, mod-add-mod, mod-eq-sub-mod}
use Rattle.std.specs.Int.Signed.{le_z_yes, lt_z_yes}
use Rattle.lists.specs.Lists.{All}
use Rattle.lists.specs.Truth.{Same, never, other, same, same?}
use Rattle.strict.specs.Tiles.{member}
use Rattle.grid.proofs.Laws.Keys.{around_lt}
use Rattle.grid.specs.Tile.{around}
use Rattle.rectangles.specs.Claims.{Apart}
use Rattle.rectangles.specs.Rectangles.{sequence, span}

-- COUNTING
module _ {A : Type 0} (f : ℕ → A) where
  pub length_sequence : (i n : ℕ) → length (sequence f i n) ≡ n
  length_sequence i zero = refl
  length_sequence i (suc n) = ap suc (length_sequence (suc i) n)

  pub map_sequence : {B : Type 0} (g : A → B) (i n : ℕ) → map g (sequence f i n) ≡ sequence (λ j. g (f j)) i n
  map_sequence g i zero = refl
  map_sequence {B} g i (suc n) = ap {B = List B} (λ l. g (f i) ∷ l) (map_sequence g (suc i) n)

  pub all_sequence : (P : A → Type 0) (i n : ℕ) → ((j : ℕ) → i ≤ j → j < i + n → P (f j)) → All P (sequence f i n)
  all_sequence P i zero h = tt
  all_sequence P i (suc n) h = (h i (omega arith) (omega arith), all_sequence P (suc i) n (λ j l u. h j (omega arith) (omega arith)))

module _ (f : ℕ → ℕ) where
  pub apart_sequence : (i n : ℕ) → ((j l : ℕ) → j < l → l < i + n → f j ≢ f l) → Apart (sequence f i n)
  apart_sequence i zero h = tt
  apart_sequence i (suc n) h = (
    all_sequence f (λ k. f i ≢ k) (suc i) n (λ j l u. h i j (omega arith) (omega arith)),
    apart_sequence (suc i) n (λ j l a b. h j l a (omega arith)),
  )

  pub member_sequence : (k i n : ℕ) → member k (sequence f i n) ≡ true → (j : ℕ) × (i ≤ j) × (j < i + n) × (f j ≡ k)
  member_sequence k i zero e = never (sym e)
  member_sequence k i (suc n) e = go (same? k (f i)) (member_sequence k (suc i) n)
    where
      go : Same k (f i) → (member k (sequence f (suc i) n) ≡ true → (j : ℕ) × (suc i ≤ j) × (j < suc i + n) × (f j ≡ k))
          → (j : ℕ) × (i ≤ j) × (j < i + suc n) × (f j ≡ k)
      go (same p q) ih = (i, omega arith, omega arith, sym p)
      go (other p q) ih = let x = ih (rw q at e) in (x.0, (let l = x.1 in omega arith), (let l = x.2 in omega arith), x.3)

  pub sequence_member : (j i n : ℕ) → i ≤ j → j < i + n → member (f j) (sequence f i n) ≡ true
  sequence_member j i zero l u = absurd (omega arith)
  sequence_member j i (suc n) l u = go (same? j i) (λ d. sequence_member j (suc i) n (omega arith) (omega arith))
    where
      go : Same j i → (j ≢ i → member (f j) (sequence f (suc i) n) ≡ true) → eqb (f j) (f i) || member (f j) (sequence f (suc i) n) ≡ true
      go (same p q) ih = ap (λ b. b || member (f j) (sequence f (suc i) n)) (eq-eqb (f j) (f i) (ap f p))
      go (other p q) ih = ap (λ b. eqb (f j) (f i) || b) (ih p) ∙ or-true (eqb (f j) (f i))

-- COLUMNS ROUND THE WORLD
-- two numbers that differ by whole turns
same_rest : (x y q r n : ℕ) → x + q * n ≡ y + r * n → x % n ≡ y % n
same_rest x y q r n e = sym (add-mul-mod_self_right x q n) ∙ ap (λ z. z % n) e ∙ add-mul-mod_self_right y r n

-- so many columns further
pub around_add : (c : ℤ) (i n : ℕ) → 0 < n → around (c +ℤ pos i) n ≡ (around c n + i) % n
around_add (pos a) i n h = sym (mod-add-mod a n i)
around_add (negsuc a) i n h = go (ltb i (suc a)) refl
  where
    go : (b : Bool) → ltb i (suc a) ≡ b → around (cond b (negsuc (suc a - suc i)) (pos (i - suc a))) n ≡ (n - 1 - a % n + i) % n
    go true e =
        let x : ℕ = suc a - suc i in
        let d : a / n * n + a % n ≡ a = div-add-mod' a n in
        let d' : x / n * n + x % n ≡ x = div-add-mod' x n in
        let r : a % n < n = mod-lt a h in
        let r' : x % n < n = mod-lt x h in
        let l = ltb-true i (suc a) e in
        sym (same_rest (n - 1 - a % n + i) (n - 1 - x % n) (x / n) (a / n) n (omega arith) ∙ mod-eq_of_lt (omega arith))
    go false e =
        let d : a / n * n + a % n ≡ a = div-add-mod' a n in
        let r : a % n < n = mod-lt a h in
        let l = ltb-false i (suc a) e in
        let t = suc-mul (a / n) n in
        sym (same_rest (n - 1 - a % n + i) (i - suc a) 0 (suc (a / n)) n (omega arith))

-- fewer than n columns apart, two are different
wrapped : (x n : ℕ) → x < n + n → (x % n ≡ x) ⊎ ((n ≤ x) × (x % n ≡ x - n))
wrapped x n l = go (ltb x n) refl
  where
    go : (b : Bool) → ltb x n ≡ b → (x % n ≡ x) ⊎ ((n ≤ x) × (x % n ≡ x - n))
    go true e = inl (mod-eq_of_lt (ltb-true x n e))
    go false e = let h = ltb-false x n e in inr (h, mod-eq-sub-mod h ∙ mod-eq_of_lt (omega arith))

pub columns_apart : (c : ℤ) (n i j : ℕ) → 0 < n → i < j → j < n → around (c +ℤ pos i) n ≢ around (c +ℤ pos j) n
columns_apart c n i j h l u e =
    let r = around_lt c n h in
    let q : (around c n + i) % n ≡ (around c n + j) % n = sym (around_add c i n h) ∙ e ∙ around_add c j n h in
    ⊎_elim
    (λ a. ⊎_elim (λ b. omega arith) (λ b. omega arith) (wrapped (around c n + j) n (omega arith)))
    (λ a. ⊎_elim (λ b. omega arith) (λ b. omega arith) (wrapped (around c n + j) n (omega arith)))
    (wrapped (around c n + i) n (omega arith))

-- FROM ONE INTEGER TO ANOTHER
pub within_span : (a b : ℤ) (i : ℕ) → i < span a b → (a ≤ℤ (a +ℤ pos i)) × ((a +ℤ pos i) ≤ℤ b)
within_span (pos a) (pos b) i l = (le_z_yes (le→leb a (a + i) (omega arith)), le_z_yes (le→leb (a + i) b (omega arith)))
within_span (pos a) (negsuc b) i l = absurd (omega arith)
within_span (negsuc a) (pos b) i l = go (ltb i (suc a)) refl
  where
    go : (t : Bool) → ltb i (suc a) ≡ t → (negsuc a ≤ℤ cond t (negsuc (suc a - suc i)) (pos (i - suc a))) × (cond t (negsuc (suc a - suc i)) (pos (i - suc a)) ≤ℤ pos b)
    go true e = (le_z_yes (le→leb (suc a - suc i) a (omega arith)), le_z_yes tt)
    go false e = let h = ltb-false i (suc a) e in (le_z_yes tt, le_z_yes (le→leb (i - suc a) b (omega arith)))
within_span (negsuc a) (negsuc b) i l = go (ltb i (suc a)) refl
  where
    go : (t : Bool) → ltb i (suc a) ≡ t → (negsuc a ≤ℤ cond t (negsuc (suc a - suc i)) (pos (i - suc a))) × (cond t (negsuc (suc a - suc i)) (pos (i - suc a)) ≤ℤ negsuc b)
    go true e = (le_z_yes (le→leb (suc a - suc i) a (omega arith)), le_z_yes (le→leb b (suc a - suc i) (omega arith)))
    go false e = let h = ltb-false i (suc a) e in absurd (omega arith)

pub span_within : (a b c : ℤ) → a ≤ℤ c → c ≤ℤ b → (i : ℕ) × (i < span a b) × (c ≡ a +ℤ pos i)
span_within (pos a) (pos b) (pos c) h k =
    let l = leb→le a c h.le in let u = leb→le c b k.le in (c - a, omega arith, ap pos (omega arith))
span_within (pos a) b (negsuc c) h k = absurd h.le
span_within (pos a) (negsuc b) (pos c) h k = absurd k.le
span_within (negsuc a) (pos b) (pos c) h k =
    let u = leb→le c b k.le in (c + suc a, omega arith, rw (le-ltb (c + suc a) (suc a) (omega arith)) (ap pos (omega arith)))
span_within (negsuc a) (negsuc b) (pos c) h k = absurd k.le
span_within (negsuc a) (pos b) (negsuc c) h k =
    let l = leb→le c a h.le in (a - c, omega arith, rw (lt-ltb (a - c) (suc a) (omega arith)) (ap negsuc (omega arith)))
span_within (negsuc a) (negsuc b) (negsuc c) h k =
    let l = leb→le c a h.le in
    let u = leb→le b c k.le in
    (a - c, omega arith, rw (lt-ltb (a - c) (suc a) (omega arith)) (ap negsuc (omega arith)))

pub further : (a : ℤ) (i j : ℕ) → i < j → (a +ℤ pos i) <ℤ (a +ℤ pos j)
further (pos a) i j l = lt_z_yes (lt→ltb (a + i) (a + j) (omega arith))
further (negsuc a) i j l = go (ltb i (suc a)) refl (ltb j (suc a)) refl
  where
    go : (b : Bool) → ltb i (suc a) ≡ b → (c : Bool) → ltb j (suc a) ≡ c
        → cond b (negsuc (suc a - suc i)) (pos (i - suc a)) <ℤ cond c (negsuc (suc a - suc j)) (pos (j - suc a))
    go true e true f = let x = ltb-true j (suc a) f in lt_z_yes (lt→ltb (suc a - suc j) (suc a - suc i) (omega arith))
    go true e false f = lt_z_yes tt
    go false e true f = let x = ltb-false i (suc a) e in let y = ltb-true j (suc a) f in absurd (omega arith)
    go false e false f = let x = ltb-false i (suc a) e in lt_z_yes (lt→ltb (i - suc a) (j - suc a) (omega arith))
