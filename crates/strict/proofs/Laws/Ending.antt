-- Commit and abort: on the log of kept operations, and on the tiles and the table
use Rattle.std.specs.Prelude.{Bool, ◌&&◌, ◌||◌, cond, false, not, true, List, [], ◌++◌, ◌∷◌, ◌≡◌, refl, ℕ, eqb}
use Rattle.std.proofs.Math.Bool.{and-false}
use Rattle.std.proofs.Common.{append-nil, ◌∙◌, ap, sym}
use Rattle.lists.specs.Truth.{Same, both_false, by_cond, or_left, or_right, other, same, same?}
use Rattle.strict.specs.Book.{oldest_first, others, recover}
use Rattle.strict.specs.Commutativity.{changes}
use Rattle.strict.specs.Histories.{finish, marked, mine, of_job, strike, unfinished}
use Rattle.strict.proofs.Laws.Members.{ascending_apply}
use Rattle.strict.proofs.Laws.Undoing.{Orderly, apply_comm, chosen, job_apart, orderly_back, own, pinned}
use Rattle.strict.specs.Operations.{Op, Step, after, apply, clear, inverse, put, skip, undo}
use Rattle.strict.specs.Sound.{FreeAfter, SoundTable}
use Rattle.strict.specs.Strict.{Log, ◌▷◌, back, empty, run}
use Rattle.strict.specs.Tiles.{Ascending, member}
use Rattle.strict.specs.declared.Rule.TheVariants.{Alone, Together}
use Rattle.strict.specs.declared.Rule.{Rule}

pub run_finish : (j : ℕ) (s : List ℕ) (os : Log Op) → run s (finish j os) ≡ run s os
run_finish j s empty = refl
run_finish j s (os ▷ o) = ap (after o) (run_finish j s os)

-- commit
unpin_finish : (r : Rule) (j : ℕ) (o u : Op) (c : Bool) → not u.done && (not (own r o u) && c) ≡ false
    → not (u.done || eqb j u.job) && (not (own r (marked o (o.done || eqb j o.job)) u) && c) ≡ false
unpin_finish Alone j o u c h = go u.done (eqb j u.job) h
  where
    go : (d e : Bool) → not d && c ≡ false → not (d || e) && c ≡ false
    go true e h = refl
    go false true h = refl
    go false false h = h
unpin_finish Together j o u c h = go u.done (eqb j u.job) refl o.done (same? u.job o.job) h
  where
    go : (d e : Bool) → eqb j u.job ≡ e → (b : Bool) → Same u.job o.job → not d && (not (not b && eqb u.job o.job) && c) ≡ false
        → not (d || e) && (not (not (b || eqb j o.job) && eqb u.job o.job) && c) ≡ false
    go true e x b s h = refl
    go false true x b s h = refl
    go false false x true s h = h
    go false false x false (same p q) h = rw (ap (eqb j) (sym p) ∙ x) h
    go false false x false (other p q) h = rw (q, and-false) (rw q at h)

pinned_finish : (r : Rule) (j : ℕ) (o : Op) (os : Log Op) → pinned (own r o) o.key os ≡ false
    → pinned (own r (marked o (o.done || eqb j o.job))) o.key (finish j os) ≡ false
pinned_finish r j o empty q = refl
pinned_finish r j o (os ▷ u) q =
    both_false (pinned_finish r j o os (or_left (pinned (own r o) o.key os) _ q))
    (ap (λ b. not (u.done || eqb j u.job) && (not b && (changes (inverse u) && eqb o.key u.key))) (own_marked r (marked o (o.done || eqb j o.job)) u _)
    ∙ unpin_finish r j o u (changes (inverse u) && eqb o.key u.key) (or_right (pinned (own r o) o.key os) _ q))
  where
    own_marked : (r : Rule) (o u : Op) (d : Bool) → own r o (marked u d) ≡ own r o u
    own_marked Alone o u d = refl
    own_marked Together o u d = refl

pub orderly_finish : (r : Rule) (j : ℕ) (s : List ℕ) (os : Log Op) → Orderly r s os → Orderly r s (finish j os)
orderly_finish r j s empty h = tt
orderly_finish r j s (os ▷ o) h =
    (orderly_finish r j s os h.0, h.1 ∙ ap (member o.key) (sym (run_finish j s os)), pinned_finish r j o os h.2)

-- abort
pub recover_last : (j : ℕ) (us : List Op) (o : Op) (t : List ℕ) → recover j (us ++ (o ∷ [])) t ≡ recover j us (cond (mine j o) (undo o t) t)
recover_last j [] o t = refl
recover_last j (u ∷ us) o t = ap (λ x. cond (mine j u) (undo u x) x) (recover_last j us o t)

recover_back : (j : ℕ) (os : Log Op) (t : List ℕ) → recover j (unfinished os) t ≡ back (of_job j) os t
recover_back j empty t = refl
recover_back j (os ▷ o) t = go o.done refl (recover_back j os)
  where
    go : (d : Bool) → o.done ≡ d → ((t : List ℕ) → recover j (unfinished os) t ≡ back (of_job j) os t)
        → recover j (cond d (unfinished os) (unfinished os ++ (o ∷ []))) t ≡ back (of_job j) os (cond (not d && eqb j o.job) (undo o t) t)
    go true e ih = ih t
    go false e ih = recover_last j (unfinished os) o t ∙ rw e (ih _)

pub recover_run : (r : Rule) (j : ℕ) (s : List ℕ) (os : Log Op) → Ascending s → Orderly r s os
    → recover j (unfinished os) (run s os) ≡ run s (strike j os)
recover_run r j s os asc h = recover_back j os (run s os) ∙ orderly_back r s (of_job j) asc (job_apart r j) os h

pub orderly_strike : (r : Rule) (j : ℕ) (s : List ℕ) (os : Log Op) → Orderly r s os → Orderly r s (strike j os)
orderly_strike r j s os h = (chosen r s (of_job j) (job_apart r j) os h).orderly

-- The table
pub others_append : (j : ℕ) (es fs : List Op) → others j (es ++ fs) ≡ others j es ++ others j fs
others_append j [] fs = refl
others_append j (e ∷ es) fs = go (mine j e) (others_append j es fs)
  where
    go : (b : Bool) → others j (es ++ fs) ≡ others j es ++ others j fs
        → cond b (others j (es ++ fs)) (e ∷ others j (es ++ fs)) ≡ cond b (others j es) (e ∷ others j es) ++ others j fs
    go true ih = ih
    go false ih = ap {B = List Op} (λ l. e ∷ l) ih

pub others_last : (j : ℕ) (es : List Op) (o : Op) (rest : List Op) → others j es ≡ rest
    → others j (es ++ (o ∷ [])) ≡ cond (mine j o) rest (rest ++ (o ∷ []))
others_last j es o rest ih = others_append j es (o ∷ []) ∙ rw ih (go (mine j o))
  where
    go : (b : Bool) → rest ++ cond b [] (o ∷ []) ≡ cond b rest (rest ++ (o ∷ []))
    go true = append-nil rest
    go false = refl

pub others_finish : (j : ℕ) (os : Log Op) → others j (unfinished os) ≡ unfinished (finish j os)
others_finish j empty = refl
others_finish j (os ▷ o) = go o.done (others_finish j os)
  where
    go : (d : Bool) → others j (unfinished os) ≡ unfinished (finish j os)
        → others j (unfinished (os ▷ marked o d)) ≡ unfinished (finish j (os ▷ marked o d))
    go true ih = ih
    go false ih = others_last j (unfinished os) (marked o false) (unfinished (finish j os)) ih ∙ by_job (eqb j o.job)
      where
        by_job : (b : Bool) → cond b (unfinished (finish j os)) (unfinished (finish j os) ++ (marked o false ∷ []))
            ≡ cond b (unfinished (finish j os)) (unfinished (finish j os) ++ (marked o b ∷ []))
        by_job true = refl
        by_job false = refl

pub others_strike : (j : ℕ) (os : Log Op) → others j (unfinished os) ≡ unfinished (strike j os)
others_strike j empty = refl
others_strike j (os ▷ o) = go o.done (others_strike j os)
  where
    go : (d : Bool) → others j (unfinished os) ≡ unfinished (strike j os)
        → others j (unfinished (os ▷ marked o d)) ≡ unfinished (strike j (os ▷ marked o d))
    go true ih = ih
    go false ih = others_last j (unfinished os) (marked o false) (unfinished (strike j os)) ih ∙ by_job (eqb j o.job)
      where
        by_job : (b : Bool) → cond b (unfinished (strike j os)) (unfinished (strike j os) ++ (marked o false ∷ []))
            ≡ unfinished (cond b (strike j os) (strike j os ▷ marked o false))
        by_job true = refl
        by_job false = refl

pub recover_ascending : (j : ℕ) (us : List Op) (t : List ℕ) → Ascending t → Ascending (recover j us t)
recover_ascending j [] t asc = asc
recover_ascending j (u ∷ us) t asc =
    let ih = recover_ascending j us t asc in
    by_cond Ascending (mine j u) (λ e. ascending_apply (inverse u) u.key (recover j us t) ih) (λ e. ih)

recover_past : (j : ℕ) (u : Op) (a : Step) (us : List Op) (t : List ℕ) → Ascending t → FreeAfter Alone u us
    → recover j us (apply a u.key t) ≡ apply a u.key (recover j us t)
recover_past j u a [] t asc f = refl
recover_past j u a (v ∷ us) t asc f = go (mine j v) (recover_past j u a us t asc f.1)
  where
    go : (b : Bool) → recover j us (apply a u.key t) ≡ apply a u.key (recover j us t)
        → cond b (undo v (recover j us (apply a u.key t))) (recover j us (apply a u.key t)) ≡ apply a u.key (cond b (undo v (recover j us t)) (recover j us t))
    go true ih = ap (undo v) ih ∙ apply_comm (inverse v) a v.key u.key (recover j us t) (recover_ascending j us t asc) (λ p. f.0 (sym p))
    go false ih = ih

undo_past : (j : ℕ) (u : Op) (us : List Op) (t : List ℕ) → Ascending t → (changes (inverse u) ≡ true → FreeAfter Alone u us)
    → recover j us (undo u t) ≡ undo u (recover j us t)
undo_past j u us t asc = go (inverse u)
  where
    go : (a : Step) → (changes a ≡ true → FreeAfter Alone u us) → recover j us (apply a u.key t) ≡ apply a u.key (recover j us t)
    go put f = recover_past j u put us t asc (f refl)
    go clear f = recover_past j u clear us t asc (f refl)
    go skip f = refl

pub recover_either_way : (j : ℕ) (t₀ : List ℕ) (us : List Op) (t : List ℕ) → Ascending t → SoundTable Alone t₀ us
    → oldest_first j us t ≡ recover j us t
recover_either_way j t₀ [] t asc s = refl
recover_either_way j t₀ (u ∷ us) t asc s = go (mine j u) (λ v a. recover_either_way j t₀ us v a s.1)
  where
    go : (b : Bool) → ((v : List ℕ) → Ascending v → oldest_first j us v ≡ recover j us v)
        → oldest_first j us (cond b (undo u t) t) ≡ cond b (undo u (recover j us t)) (recover j us t)
    go true ih = ih (undo u t) (ascending_apply (inverse u) u.key t asc) ∙ undo_past j u us t asc s.0.own_tile
    go false ih = ih t asc
