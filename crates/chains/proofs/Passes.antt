-- What an entry asks of those after it, and what the entries from a place on come to
use mathlib.Core.Bool.{Bool, ◌&&◌, ◌||◌, and-false, and-true, cond, false, not, true}
use mathlib.Core.List.{List, [], ◌∷◌, map}
use mathlib.Core.Path.{◌∙◌, ◌≡◌, ap, ap₂, refl, sym}
use Prim.Native.Nat.{◌+◌, ◌<◌, ℕ}
use native.Mathlib.Omega.{arith}
use lib.Dec.{eqb}
use lib.ListN.{drop, get_or, length}
use Rattle.std.specs.List.{list_any}
use borrow.Author.Tests.{eqb-true, not-true}
use Rattle.lists.specs.Lists.{all_true}
use Rattle.lists.specs.Truth.{both, one_if}
use Rattle.strict.specs.Book.{counted_of, deleted}
use Rattle.strict.specs.Tiles.{member}
use Rattle.strict.specs.declared.Rule.TheVariants.{Together}
use Rattle.service.specs.Entry.{job_in, key_in, kind_in, op_in}
use Rattle.service.specs.Sound.{as_left, changing, may_stand, seen_in, settled_B}
use Rattle.layout.specs.Whose.{meant}
use Rattle.layout.specs.declared.Whose.{Whose}
use Rattle.entries.specs.Laws.{decoded}
use Rattle.settling.specs.Tests.{settled_at}
use Rattle.chains.specs.Chains.{followed, linked, passed}
use Rattle.chains.proofs.Near.{Reaches, drop_next, passed_by, same_from}

-- DELETES
abbrev pub is_delete : ℕ → Bool
is_delete e = eqb (kind_in e) 3

-- on lists of entries: whether one deletes the tile, and how many absent tiles are deleted
abbrev pub deleted_in : ℕ → List ℕ → Bool
deleted_in key es = deleted key (map op_in es)

abbrev pub counted_in : Whose → List ℕ → List ℕ → ℕ
counted_in whose t es = counted_of (meant whose) t (map op_in es)

deleted_first : (key e : ℕ) (es : List ℕ) → deleted_in key (e ∷ es) ≡ ((is_delete e && eqb key (key_in e)) || deleted_in key es)
deleted_first key e es = rw (decoded (kind_in e)).three

counted_first : (whose : Whose) (t : List ℕ) (e : ℕ) (es : List ℕ)
    → counted_in whose t (e ∷ es) ≡ one_if (meant whose (op_in e) && (is_delete e && not (member (key_in e) t || deleted_in (key_in e) es))) + counted_in whose t es
counted_first whose t e es = rw (decoded (kind_in e)).three

pub deleted_passes : (key f : ℕ) (fs : List ℕ) → passed_by is_delete key f ≡ true → deleted_in key (f ∷ fs) ≡ deleted_in key fs
deleted_passes key f fs h = deleted_first key f fs ∙ rw (not-true (is_delete f && eqb key (key_in f)) h)

-- CHAINS
-- of two that changed a tile, the second found what the first left just where their kinds differ
alternate : (a b : ℕ) → changing a ≡ true → changing b ≡ true → not (eqb a b) ≡ as_left a (eqb b 3)
alternate a b p q = go (eqb a 1) refl (eqb b 1) refl
  where
    three : (x : ℕ) → changing x ≡ true → eqb x 1 ≡ false → x ≡ 3
    three x h e = eqb-true x 3 (rw e at h)

    go : (c : Bool) → eqb a 1 ≡ c → (d : Bool) → eqb b 1 ≡ d → not (eqb a b) ≡ as_left a (eqb b 3)
    go true x true y = rw (eqb-true a 1 x, eqb-true b 1 y)
    go true x false y = rw (eqb-true a 1 x, three b q y)
    go false x true y = rw (three a p x, eqb-true b 1 y)
    go false x false y = rw (three a p x, three b q y)

pub followed_passes : (t : List ℕ) (e f : ℕ) (fs : List ℕ) → not (eqb (key_in e) (key_in f)) ≡ true → followed t e (f ∷ fs) ≡ followed t e fs
followed_passes t e f fs h = rw (not-true (eqb (key_in e) (key_in f)) h)

-- where the later entries are settled, what follows e says all that is asked of e
module _ (t : List ℕ) (e : ℕ) (changes : changing (kind_in e) ≡ true) where
  abbrev asked : List ℕ → Bool
  asked later = as_left (kind_in e) (seen_in (key_in e) later t) && all_true (may_stand Together e) later

  module _ (f : ℕ) (fs : List ℕ) (settled : settled_at Together t fs f ≡ true) (rest : followed t e fs ≡ asked fs) where
    on_from : eqb (key_in e) (key_in f) ≡ true → eqb (job_in e) (job_in f) ≡ true → (c : Bool) → changing (kind_in f) ≡ c → followed t e (f ∷ fs) ≡ asked (f ∷ fs)
    on_from q j true c =
        let stand = rw c at (both (as_left (kind_in f) (seen_in (key_in f) fs t)) (not (changing (kind_in f)) || all_true (may_stand Together f) fs) settled).1 in
        let alike = ap₂ (λ k n. all_true (λ g. not (eqb k (key_in g)) || eqb n (job_in g)) fs) (eqb-true (key_in e) (key_in f) q) (eqb-true (job_in e) (job_in f) j) in
        rw (q, j, c, alike ∙ stand, alternate (kind_in e) (kind_in f) changes c) (sym (and-true (as_left (kind_in e) (eqb (kind_in f) 3))))
    on_from q j false c = rw (q, j, c) rest

    on_tile : eqb (key_in e) (key_in f) ≡ true → (b : Bool) → eqb (job_in e) (job_in f) ≡ b → followed t e (f ∷ fs) ≡ asked (f ∷ fs)
    on_tile q true j = on_from q j (changing (kind_in f)) refl
    on_tile q false j = rw (q, j) (sym (and-false (as_left (kind_in e) (cond (changing (kind_in f) && true) (eqb (kind_in f) 3) (seen_in (key_in e) fs t)))))

    one_more : (b : Bool) → eqb (key_in e) (key_in f) ≡ b → followed t e (f ∷ fs) ≡ asked (f ∷ fs)
    one_more true q = on_tile q (eqb (job_in e) (job_in f)) refl
    one_more false q = rw (q, and-false (changing (kind_in f))) rest

  followed_is : (later : List ℕ) → settled_B Together t later ≡ true → followed t e later ≡ asked later
  followed_is [] h = sym (and-true (as_left (kind_in e) (member (key_in e) t)))
  followed_is (f ∷ fs) h =
      let p = both (settled_at Together t fs f) (settled_B Together t fs) h in
      one_more f fs p.0 (followed_is fs p.1) (eqb (key_in e) (key_in f)) refl

  pub followed_settles : (later : List ℕ) → settled_B Together t later ≡ true → followed t e later ≡ settled_at Together t later e
  followed_settles later h = followed_is later h ∙ rw changes

-- A PASS, behind whose entry at i `drop (i + 1) l` is left
pub deleted_listed : (key : ℕ) (es : List ℕ) → list_any (λ e. is_delete e && eqb key (key_in e)) es ≡ deleted_in key es
deleted_listed key [] = refl
deleted_listed key (e ∷ es) = ap (λ b. (is_delete e && eqb key (key_in e)) || b) (deleted_listed key es) ∙ sym (deleted_first key e es)

module _ (l : List ℕ) (i : ℕ) (inside : i < length l) where
  pub followed_turn : (t : List ℕ) (e : ℕ) {b : Bool} → passed e (get_or l i 0) ≡ b
      → followed t e (drop i l) ≡ cond b (followed t e (drop (i + 1) l)) (linked e (get_or l i 0))
  followed_turn t e h = ap (followed t e) (drop_next l i inside) ∙ ap (λ b. cond b (followed t e (drop (i + 1) l)) (linked e (get_or l i 0))) h

  counted_turn : (whose : Whose) (t : List ℕ) {b : Bool} → is_delete (get_or l i 0) ≡ b
      → counted_in whose t (drop i l)
      ≡ one_if (meant whose (op_in (get_or l i 0)) && (b && not (member (key_in (get_or l i 0)) t || deleted_in (key_in (get_or l i 0)) (drop (i + 1) l))))
      + counted_in whose t (drop (i + 1) l)
  counted_turn whose t h = ap (counted_in whose t) (drop_next l i inside) ∙ counted_first whose t (get_or l i 0) (drop (i + 1) l) ∙ rw h

  pub counted_same : (whose : Whose) (t : List ℕ) {absent : ℕ} → is_delete (get_or l i 0) ≡ false → absent ≡ counted_in whose t (drop (i + 1) l)
      → absent ≡ counted_in whose t (drop i l)
  counted_same whose t h so_far = let z = rw (and-false (meant whose (op_in (get_or l i 0)))) at (counted_turn whose t h) in omega arith

  -- one more if its tile is absent and none from the nearest delete on has it, since none before has
  pub counted_more : (whose : Whose) (t : List ℕ) (from : ℕ) {absent : ℕ} {one : Bool} → is_delete (get_or l i 0) ≡ true → Reaches is_delete (key_in (get_or l i 0)) l (i + 1) from
      → one ≡ (meant whose (op_in (get_or l i 0)) && not (member (key_in (get_or l i 0)) t || deleted_in (key_in (get_or l i 0)) (drop from l)))
      → absent ≡ counted_in whose t (drop (i + 1) l) → absent + one_if one ≡ counted_in whose t (drop i l)
  counted_more whose t from h near here so_far =
      let key = key_in (get_or l i 0) in
      let later = same_from (deleted_in key) (passed_by is_delete key) (deleted_passes key) l from near.high (i + 1) near.low near.free in
      omega (arith, counted_turn whose t h, ap one_if (here ∙ ap (λ b. meant whose (op_in (get_or l i 0)) && not (member key t || b)) (sym later)))
