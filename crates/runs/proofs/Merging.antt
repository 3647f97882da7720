-- The pass that puts a run in, from the back: what is put in so far stands behind `place`
use mathlib.Core.List.{List, [], ◌++◌, ◌∷◌}
use mathlib.Core.Path.{◌∙◌, ◌≡◌, ap, refl, subst, sym}
use Prim.Native.Nat.{◌+◌, ◌-◌, ◌<◌, ◌≤◌, suc, ℕ}
use native.Mathlib.Omega.{arith}
use lib.Dec.{eqb, ltb}
use lib.ListN.{drop, get_or, length, length-append, length-set, replicate, set, take, take-append-drop}
use lib.Seq.{append_snoc, drop-drop, length-take-le, take-set-le, take-take}
use Rattle.std.proofs.lemmas.List.{drop-replicate, drop-set}
use Rattle.lists.specs.Lists.{padded}
use Rattle.lists.specs.Truth.{by_cond}
use Rattle.strict.specs.Operations.{put}
use Rattle.strict.specs.Tiles.{Ascending, insert_tile}
use Rattle.search.specs.Laws.{rest_zeros}
use Rattle.search.specs.Table.{TileTable}
use Rattle.runs.specs.Laws.{apply_more}
use Rattle.runs.specs.Runs.{apply_all}
use Rattle.runs.proofs.Ascents.{ascending_front, ascending_take}
use Rattle.runs.proofs.Greatest.{both_last, key_last, merged, no_tile, tile_last}

-- no tile is lost
insert_longer : (k : ℕ) (t : List ℕ) → length t ≤ length (insert_tile k t)
insert_longer k [] = omega arith
insert_longer k (x ∷ t) =
    let ih = insert_longer k t in
    let P : List ℕ → Type 0 = λ l. suc (length t) ≤ length l in
    by_cond P (ltb k x) (λ _. omega arith) (λ _. by_cond P (eqb k x) (λ _. omega arith) (λ _. omega arith))

insert_some : (k : ℕ) (t : List ℕ) → 0 < length (insert_tile k t)
insert_some k [] = omega arith
insert_some k (x ∷ t) =
    let P : List ℕ → Type 0 = λ l. 0 < length l in
    by_cond P (ltb k x) (λ _. omega arith) (λ _. by_cond P (eqb k x) (λ _. omega arith) (λ _. omega arith))

pub all_longer : (ks t : List ℕ) → length t ≤ length (apply_all put ks t)
all_longer [] t = omega arith
all_longer (k ∷ ks) t = let h = insert_longer k t in let ih = all_longer ks (insert_tile k t) in omega arith

-- what is left to merge in front of `place`, with what stands behind it, is `goal`
pub record Merging (goal t rest : List ℕ) (old place : ℕ) : Type 0 where
  pub old_fits : old ≤ length t
  pub place_fits : place ≤ length t
  pub ascends : Ascending (take old t)
  pub rises : Ascending rest
  pub place_is : place ≡ length (merged rest t old)
  pub whole : merged rest t old ++ drop place t ≡ goal

module _ {goal t rest : List ℕ} {old place : ℕ} (m : Merging goal t rest old place) where
  pub ends : rest ≡ [] → t ≡ goal
  ends none =
      let all : merged rest t old ≡ take old t = rw none refl in
      let at : place ≡ old = m.place_is ∙ ap length all ∙ length-take-le old t m.old_fits in
      sym (take-append-drop old t) ∙ rw (all, at) at m.whole

  -- the last of what is left goes to the last place, and fewer tiles and keys are left
  turns : (fewer : List ℕ) (less x : ℕ) → merged rest t old ≡ merged fewer t less ++ (x ∷ []) → less ≤ old → Ascending fewer
      → Merging goal (set t (place - 1) x) fewer less (place - 1)
  turns fewer less x last l asc =
      let p : place ≡ length (merged fewer t less) + 1 = m.place_is ∙ ap length last ∙ length-append (merged fewer t less) (x ∷ []) in
      let n : length (take less t) ≡ less = length-take-le less t (let a = m.old_fits in omega arith) in
      let b = all_longer fewer (take less t) in
      let fits = m.place_fits in
      let same : take less (set t (place - 1) x) ≡ take less t = take-set-le less t (place - 1) x (omega arith) in
      let at : place - 1 ≡ length (merged fewer t less) = omega arith in
      let next : place - 1 + 1 ≡ place = omega arith in
      record {
        old_fits = rw (length-set t (place - 1) x) (let a = m.old_fits in omega arith);
        place_fits = rw (length-set t (place - 1) x) (omega arith);
        ascends = rw (same, ← take-take less old t l) (ascending_take less (take old t) m.ascends);
        rises = asc;
        place_is = rw same at;
        whole =
            rw (same, drop-set t (place - 1) x (omega arith), next)
            (sym (append_snoc (merged fewer t less) x (drop place t)) ∙ ap (λ l. l ++ drop place t) (sym last) ∙ m.whole);
      }

  -- the last key that is left, and the last tile
  module _ (earlier : List ℕ) (k : ℕ) (split : rest ≡ earlier ++ (k ∷ [])) where
    before : Ascending earlier
    before = ascending_front k earlier (subst Ascending split m.rises)

    pub place_there : 0 < place
    place_there =
        let some = insert_some k (apply_all put earlier (take old t)) in
        omega (arith, m.place_is ∙ ap length (rw split refl ∙ apply_more put k earlier (take old t)))

    pub no_tile_left : old ≡ 0 → Merging goal (set t (place - 1) k) earlier old (place - 1)
    no_tile_left none = turns earlier old k (no_tile rest earlier t k old split m.rises m.old_fits m.ascends none) (omega arith) before

    module _ (x : ℕ) (there : 0 < old) (is : x ≡ get_or t (old - 1) 0) where
      pub key_goes : x < k → Merging goal (set t (place - 1) k) earlier old (place - 1)
      key_goes h = turns earlier old k (key_last rest earlier t k old split m.rises m.old_fits m.ascends there (omega arith)) (omega arith) before

      pub both_go : k ≡ x → Merging goal (set t (place - 1) x) earlier (old - 1) (place - 1)
      both_go e = turns earlier (old - 1) x (rw is (both_last rest earlier t k old split m.rises m.old_fits m.ascends there (e ∙ is))) (omega arith) before

      pub tile_goes : k < x → Merging goal (set t (place - 1) x) rest (old - 1) (place - 1)
      tile_goes h = turns rest (old - 1) x (rw is (tile_last rest earlier t k old split m.rises m.old_fits m.ascends there (omega arith))) (omega arith) m.rises

-- with nothing but 0 behind it
pub padded_goal : {t : List ℕ} {count left : ℕ} (l : List ℕ) → TileTable t count → left ≡ length l → count ≤ left → left ≤ length t
    → l ++ drop left t ≡ padded (length t) l
padded_goal {t} {count} {left} l table is more fits =
    ap (λ r. l ++ r)
    (ap (λ n. drop n t) further
    ∙ sym (drop-drop (left - count) count t)
    ∙ ap (drop (left - count)) (rest_zeros table)
    ∙ drop-replicate {X = ℕ} (left - count) (length t - count) 0
    ∙ ap (λ n. replicate n 0) zeros)
  where
    further : left ≡ count + (left - count)
    further = omega arith

    zeros : length t - count - (left - count) ≡ length t - length l
    zeros = omega arith
