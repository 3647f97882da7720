-- Keys put in or taken out one after another, tiles that are kept, and the place of a key
use Rattle.std.specs.Prelude.{List, [], ◌++◌, ◌∷◌, ◌≢◌, ◌≡◌, refl, ◌+◌, ◌-◌, ℕ, drop, length, replicate, take, Bool, false, true, ◌<◌, ◌≤◌, eqb, ltb, get_or}
use Rattle.std.proofs.Common.{◌∙◌, sym, arith, eq-eqb, ltb-false, ltb-true, ne_eqb}
use Rattle.std.proofs.lemmas.List.{replicate-append-replicate}
use Rattle.lists.specs.Lists.{All, padded}
use Rattle.strict.proofs.Laws.Soundness.{member_else}
use Rattle.strict.specs.Operations.{Step, apply, skip}
use Rattle.strict.specs.Tiles.{member, Ascending}
use Rattle.search.specs.Laws.{rest_zeros}
use Rattle.search.specs.Table.{TileTable, position_of}
use Rattle.runs.specs.Runs.{Kept, apply_all}
use Rattle.lists.specs.Truth.{Same, other, same, same?}
use Rattle.strict.proofs.Laws.Members.{above_ascending, not_own}

-- one key more
pub apply_more : (a : Step) (k : ℕ) (ks t : List ℕ) → apply_all a (ks ++ (k ∷ [])) t ≡ apply a k (apply_all a ks t)
apply_more a k [] t = refl
apply_more a k (x ∷ ks) t = apply_more a k ks (apply a x t)

-- whether another tile is there stays as it was
pub member_others : (a : Step) (k : ℕ) (ks t : List ℕ) → All (λ x. x ≢ k) ks → member k (apply_all a ks t) ≡ member k t
member_others a k [] t d = refl
member_others a k (x ∷ ks) t d = member_others a k ks (apply a x t) d.1 ∙ member_else a k x t (λ e. d.0 (sym e))

-- where nothing is done nothing changes
pub skip_all : (ks t : List ℕ) → apply_all skip ks t ≡ t
skip_all [] t = refl
skip_all (k ∷ ks) t = skip_all ks t

-- those that are kept, with the places behind them cleared
pub wiped : {kept t₀ t : List ℕ} {count left : ℕ} → TileTable t₀ count → Kept kept t₀ count t left
    → take left t ++ (replicate (count - left) 0 ++ drop count t) ≡ padded (length t₀) kept
wiped {kept} {t₀} {t} {count} {left} table k =
    let fits = table.fits in
    let less = k.left_fits in
    let is = k.counted in
    let zeros : count - left + (length t₀ - count) ≡ length t₀ - length kept = omega arith in
    rw (k.in_front, k.same_behind, rest_zeros table, replicate-append-replicate {A = ℕ} (count - left) (length t₀ - count) 0, zeros)

-- whether a key is there, by what stands at its place
pub there_at : (k : ℕ) (s : List ℕ) → Ascending s → position_of k s < length s → eqb (get_or s (position_of k s) 0) k ≡ member k s
there_at k [] asc l = absurd (omega arith)
there_at k (x ∷ s) asc l = go (ltb x k) refl (same? k x) (there_at k s (above_ascending x s asc))
  where
    go : (b : Bool) → ltb x k ≡ b → Same k x → (position_of k s < length s → eqb (get_or s (position_of k s) 0) k ≡ member k s)
        → eqb (get_or (x ∷ s) (position_of k (x ∷ s)) 0) k ≡ member k (x ∷ s)
    go true e q ih =
        let h = ltb-true x k e in
        let rest = rw e at l in
        rw (e, ne_eqb k x (λ e. omega arith)) (ih (omega arith))
    go false e (same p t) ih = rw (e, t) (eq-eqb x k (sym p))
    go false e (other p t) ih = let h = ltb-false x k e in rw (e, not_own k (x ∷ s) (omega arith, asc)) (ne_eqb x k (λ q. p (sym q)))

pub past_all : (k : ℕ) (s : List ℕ) → Ascending s → length s ≤ position_of k s → false ≡ member k s
past_all k [] asc l = refl
past_all k (x ∷ s) asc l = go (ltb x k) refl (past_all k s (above_ascending x s asc))
  where
    go : (b : Bool) → ltb x k ≡ b → (length s ≤ position_of k s → false ≡ member k s) → false ≡ member k (x ∷ s)
    go true e ih = let h = ltb-true x k e in let rest = rw e at l in rw (ne_eqb k x (λ e. omega arith)) (ih (omega arith))
    go false e ih = let rest = rw e at l in absurd (omega arith)
