-- The greatest of some tiles and keys: with the keys put in it is the last, and nothing moves in front of it
use mathlib.Core.Bool.{Bool, cond, false, true}
use mathlib.Core.List.{List, [], ◌++◌, ◌∷◌}
use mathlib.Core.Path.{◌∙◌, ◌≡◌, ap, refl, subst}
use Prim.Native.Nat.{◌-◌, ◌<◌, ◌≤◌, ℕ}
use native.Mathlib.Omega.{arith}
use lib.Dec.{eqb, ltb}
use lib.ListN.{get_or, length, take}
use borrow.Author.Tests.{le-ltb, lt-ltb, ne_eqb}
use Rattle.lists.specs.Truth.{by_cond, eqb_same}
use Rattle.strict.specs.Operations.{put}
use Rattle.strict.specs.Tiles.{Ascending, insert_tile}
use Rattle.runs.specs.Laws.{apply_more}
use Rattle.runs.specs.Runs.{apply_all}
use Rattle.runs.proofs.Ascents.{Under, behind, take_last, under_last, under_more, under_snoc}

-- one key: in front of a greater tile, behind all, and the last itself
insert_front : (k x : ℕ) (t : List ℕ) → k < x → insert_tile k (t ++ (x ∷ [])) ≡ insert_tile k t ++ (x ∷ [])
insert_front k x [] h = rw (lt-ltb k x h)
insert_front k x (y ∷ t) h = go (ltb k y) (eqb k y) (insert_front k x t h)
  where
    go : (a b : Bool) → insert_tile k (t ++ (x ∷ [])) ≡ insert_tile k t ++ (x ∷ [])
        → cond a (k ∷ y ∷ (t ++ (x ∷ []))) (cond b (y ∷ (t ++ (x ∷ []))) (y ∷ insert_tile k (t ++ (x ∷ []))))
        ≡ cond a (k ∷ y ∷ t) (cond b (y ∷ t) (y ∷ insert_tile k t)) ++ (x ∷ [])
    go true b ih = refl
    go false true ih = refl
    go false false ih = behind ih

insert_behind : (k : ℕ) (t : List ℕ) → Under k t → insert_tile k t ≡ t ++ (k ∷ [])
insert_behind k [] u = refl
insert_behind k (y ∷ t) u =
    let h = u.0 in
    rw (le-ltb k y (omega arith), ne_eqb k y (λ e. omega arith)) (behind (insert_behind k t u.1))

insert_own : (k : ℕ) (t : List ℕ) → Under k t → insert_tile k (t ++ (k ∷ [])) ≡ t ++ (k ∷ [])
insert_own k [] u = rw (le-ltb k k (omega arith), eqb_same k)
insert_own k (y ∷ t) u =
    let h = u.0 in
    rw (le-ltb k y (omega arith), ne_eqb k y (λ e. omega arith)) (behind (insert_own k t u.1))

-- a list of keys
all_front : (x : ℕ) (ks t : List ℕ) → Under x ks → apply_all put ks (t ++ (x ∷ [])) ≡ apply_all put ks t ++ (x ∷ [])
all_front x [] t u = refl
all_front x (k ∷ ks) t u = ap (apply_all put ks) (insert_front k x t u.0) ∙ all_front x ks (insert_tile k t) u.1

under_insert : (x k : ℕ) (t : List ℕ) → k < x → Under x t → Under x (insert_tile k t)
under_insert x k [] h u = (h, tt)
under_insert x k (y ∷ t) h u =
    by_cond (Under x) (ltb k y) (λ _. (h, u)) (λ _. by_cond (Under x) (eqb k y) (λ _. u) (λ _. (u.0, under_insert x k t h u.1)))

under_all : (x : ℕ) (ks t : List ℕ) → Under x ks → Under x t → Under x (apply_all put ks t)
under_all x [] t u v = v
under_all x (k ∷ ks) t u v = under_all x ks (insert_tile k t) u.1 (under_insert x k t u.0 v)

module _ (k : ℕ) (ks t : List ℕ) (asc : Ascending (ks ++ (k ∷ []))) where
  pub key_greatest : Under k t → apply_all put (ks ++ (k ∷ [])) t ≡ apply_all put ks t ++ (k ∷ [])
  key_greatest u = apply_more put k ks t ∙ insert_behind k (apply_all put ks t) (under_all k ks t (under_last k ks asc) u)

  pub both_greatest : Under k t → apply_all put (ks ++ (k ∷ [])) (t ++ (k ∷ [])) ≡ apply_all put ks t ++ (k ∷ [])
  both_greatest u =
      let v = under_last k ks asc in
      apply_more put k ks (t ++ (k ∷ [])) ∙ ap (insert_tile k) (all_front k ks t v) ∙ insert_own k (apply_all put ks t) (under_all k ks t v u)

  pub tile_greatest : (x : ℕ) → k < x → apply_all put (ks ++ (k ∷ [])) (t ++ (x ∷ [])) ≡ apply_all put (ks ++ (k ∷ [])) t ++ (x ∷ [])
  tile_greatest x h = all_front x (ks ++ (k ∷ [])) t (under_snoc k x ks (under_more k x ks h (under_last k ks asc)) h)

-- the keys ks, which end in k, and the tiles t, of which the first `old` are left
abbrev pub merged : List ℕ → List ℕ → ℕ → List ℕ
merged ks t old = apply_all put ks (take old t)

module _ (ks earlier t : List ℕ) (k old : ℕ) (split : ks ≡ earlier ++ (k ∷ [])) (rises : Ascending ks) (fits : old ≤ length t) (ordered : Ascending (take old t)) where
  keys_ascend : Ascending (earlier ++ (k ∷ []))
  keys_ascend = subst Ascending split rises

  key_step : Under k (take old t) → merged ks t old ≡ merged earlier t old ++ (k ∷ [])
  key_step u = rw split (key_greatest k earlier (take old t) keys_ascend u)

  pub no_tile : old ≡ 0 → merged ks t old ≡ merged earlier t old ++ (k ∷ [])
  no_tile none = key_step (rw none tt)

  module _ (there : 0 < old) where
    abbrev tile : ℕ
    tile = get_or t (old - 1) 0

    tiles_split : take old t ≡ take (old - 1) t ++ (tile ∷ [])
    tiles_split = take_last t old there fits

    under_tile : Under tile (take (old - 1) t)
    under_tile = under_last tile (take (old - 1) t) (subst Ascending tiles_split ordered)

    pub key_last : tile < k → merged ks t old ≡ merged earlier t old ++ (k ∷ [])
    key_last h = key_step (rw tiles_split (under_snoc tile k (take (old - 1) t) (under_more tile k (take (old - 1) t) h under_tile) h))

    pub both_last : k ≡ tile → merged ks t old ≡ merged earlier t (old - 1) ++ (tile ∷ [])
    both_last e =
        rw (split, e, tiles_split)
        (both_greatest tile earlier (take (old - 1) t) (rw e at keys_ascend) under_tile)

    pub tile_last : k < tile → merged ks t old ≡ merged ks t (old - 1) ++ (tile ∷ [])
    tile_last h = rw (split, tiles_split) (tile_greatest k earlier (take (old - 1) t) keys_ascend tile h)
