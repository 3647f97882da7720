-- What is left when the open jobs are aborted: the committed operations, with the answers that they had
use Rattle.std.specs.Prelude.{Bool, ◌&&◌, cond, false, not, true, List, [], ◌≢◌, ◌≡◌, refl, ◌<◌, ◌≤◌, suc, zero, ℕ, eqb}
use Rattle.std.proofs.Math.Bool.{and-true, or-true}
use Rattle.std.proofs.Common.{◌∙◌, ap, subst, sym, arith}
use Rattle.lists.specs.Truth.{Same, both, never, or_left, or_right, other, same, same?}
use Rattle.strict.specs.Book.{Admitted, LeftCommitted, book_after, sweep}
use Rattle.strict.specs.Histories.{Event, abort, commit, committed, finish, kept, marked, mine, open_job, opened, operation, strike, unfinished}
use Rattle.strict.proofs.Laws.Following.{follows, follows_strict}
use Rattle.strict.specs.Operations.{Op}
use Rattle.strict.specs.Strict.{Log, SameAnswers, ◌▷◌, empty, run, without}
use Rattle.strict.specs.Tiles.{Ascending}
use Rattle.strict.specs.declared.Procedure.{Procedure}
use Rattle.strict.specs.declared.Rule.{Rule}

-- to drop all that is unfinished is to keep what is committed, under either rule
pub committed_answers : (r : Rule) (s : List ℕ) (h : Log Event) → Ascending s → Admitted r s h → SameAnswers s (committed (kept s h))
committed_answers r s h asc a =
    subst (λ p. SameAnswers s (without p (kept s h))) (λ i l o. and-true (not o.done) i) (follows_strict r s h asc a (λ i. true)).same_answers

-- An unfinished operation's job is open
Owned : Log Event → Log Op → Type 0
Owned h empty = Unit {0}
Owned h (os ▷ o) = Owned h os × (o.done ≡ false → opened o.job h ≡ true)

owned_open : (h : Log Event) (j : ℕ) (os : Log Op) → Owned h os → Owned (h ▷ open_job j) os
unfolding Owned
owned_open h j empty w = tt
owned_open h j (os ▷ o) w = (owned_open h j os w.0, λ d. rw (w.1 d) (or-true (eqb j o.job)))

owned_operation : (h : Log Event) (j sheet : ℕ) (p : Procedure) (k : ℕ) (os : Log Op) → Owned h os → Owned (h ▷ operation j sheet p k) os
unfolding Owned
owned_operation h j sheet p k empty w = tt
owned_operation h j sheet p k (os ▷ o) w = (owned_operation h j sheet p k os w.0, w.1)

owned_finish : (h : Log Event) (j : ℕ) (os : Log Op) → Owned h os → Owned (h ▷ commit j) (finish j os)
unfolding Owned
owned_finish h j empty w = tt
owned_finish h j (os ▷ o) w =
    (owned_finish h j os w.0, λ d. rw (or_right o.done (eqb j o.job) d) (w.1 (or_left o.done (eqb j o.job) d)))

owned_strike : (h : Log Event) (j : ℕ) (os : Log Op) → Owned h os → Owned (h ▷ abort j) (strike j os)
unfolding Owned
owned_strike h j empty w = tt
owned_strike h j (os ▷ o) w = go (mine j o) refl (owned_strike h j os w.0)
  where
    go : (b : Bool) → mine j o ≡ b → Owned (h ▷ abort j) (strike j os) → Owned (h ▷ abort j) (cond b (strike j os) (strike j os ▷ o))
    go true e i = i
    go false e i = (i, λ d. rw (rw d at e) (w.1 d))

owned : (r : Rule) (s : List ℕ) (h : Log Event) → Admitted r s h → Owned h (kept s h)
unfolding Owned
owned r s empty a = tt
owned r s (h ▷ open_job j) a = owned_open h j (kept s h) (owned r s h a.0)
owned r s (h ▷ operation j sheet p k) a = (owned_operation h j sheet p k (kept s h) (owned r s h a.0), λ d. a.1)
owned r s (h ▷ commit j) a = owned_finish h j (kept s h) (owned r s h a.0)
owned r s (h ▷ abort j) a = owned_strike h j (kept s h) (owned r s h a.0)

-- so where no job is open, all that is kept is committed
all_committed : (h : Log Event) (os : Log Op) → Owned h os → ((j : ℕ) → opened j h ≡ false) → committed os ≡ os
unfolding Owned
all_committed h empty w none_open = refl
all_committed h (os ▷ o) w none_open = go o.done w.1 (all_committed h os w.0 none_open)
  where
    go : (d : Bool) → (d ≡ false → opened o.job h ≡ true) → committed os ≡ os → committed (os ▷ marked o d) ≡ os ▷ marked o d
    go true f ih = ap (λ l. l ▷ marked o true) ih
    go false f ih = never (sym (f refl) ∙ none_open o.job)

none_unfinished : (os : Log Op) → unfinished (committed os) ≡ []
none_unfinished empty = refl
none_unfinished (os ▷ o) = go o.done (none_unfinished os)
  where
    go : (d : Bool) → unfinished (committed os) ≡ [] → unfinished (committed (os ▷ marked o d)) ≡ []
    go true ih = ih
    go false ih = ih

-- an abort strikes out nothing committed
committed_strike : (j : ℕ) (os : Log Op) → committed (strike j os) ≡ committed os
committed_strike j empty = refl
committed_strike j (os ▷ o) = go o.done (eqb j o.job) (committed_strike j os)
  where
    go : (d e : Bool) → committed (strike j os) ≡ committed os
        → committed (cond (not d && e) (strike j os) (strike j os ▷ marked o d)) ≡ committed (os ▷ marked o d)
    go true e ih = ap (λ l. l ▷ marked o true) ih
    go false true ih = ih
    go false false ih = ih

-- The sweep
committed_sweep : (s : List ℕ) (n : ℕ) (h : Log Event) → committed (kept s (sweep n h)) ≡ committed (kept s h)
committed_sweep s zero h = refl
committed_sweep s (suc n) h = go (opened n (sweep n h)) (committed_sweep s n h)
  where
    go : (b : Bool) → committed (kept s (sweep n h)) ≡ committed (kept s h)
        → committed (kept s (cond b (sweep n h ▷ abort n) (sweep n h))) ≡ committed (kept s h)
    go true ih = committed_strike n (kept s (sweep n h)) ∙ ih
    go false ih = ih

admitted_sweep : (r : Rule) (s : List ℕ) (n : ℕ) (h : Log Event) → Admitted r s h → Admitted r s (sweep n h)
admitted_sweep r s zero h a = a
admitted_sweep r s (suc n) h a = go (opened n (sweep n h)) refl (admitted_sweep r s n h a)
  where
    go : (b : Bool) → opened n (sweep n h) ≡ b → Admitted r s (sweep n h) → Admitted r s (cond b (sweep n h ▷ abort n) (sweep n h))
    go true e ih = (ih, e)
    go false e ih = ih

-- no job below n is open after it, and no other is opened by it
swept : (n : ℕ) (h : Log Event) (j : ℕ) → opened j (sweep n h) ≡ true → (opened j h ≡ true) × (n ≤ j)
swept zero h j e = (e, omega arith)
swept (suc n) h j e = go (opened n (sweep n h)) refl (swept n h j) e (same? n j)
  where
    go : (b : Bool) → opened n (sweep n h) ≡ b → (opened j (sweep n h) ≡ true → (opened j h ≡ true) × (n ≤ j))
        → opened j (cond b (sweep n h ▷ abort n) (sweep n h)) ≡ true → Same n j → (opened j h ≡ true) × (suc n ≤ j)
    go true d ih x (same p q) = never (sym (both (not (eqb n j)) (opened j (sweep n h)) x).0 ∙ ap not q)
    go true d ih x (other p q) =
        let i = ih (both (not (eqb n j)) (opened j (sweep n h)) x).1 in
        let d₁ : n ≢ j = p in
        (i.0, omega arith)
    go false d ih x (same p q) = never (sym x ∙ ap (λ z. opened z (sweep n h)) (sym p) ∙ d)
    go false d ih x (other p q) = let i = ih x in let d₁ : n ≢ j = p in (i.0, omega arith)

-- a history opens jobs 0 to 63 only
pub few_jobs : (r : Rule) (s : List ℕ) (h : Log Event) → Admitted r s h → (j : ℕ) → opened j h ≡ true → j < 64
few_jobs r s empty a j e = never (sym e)
few_jobs r s (h ▷ open_job i) a j e = go (few_jobs r s h a.0 j) (same? i j)
  where
    go : (opened j h ≡ true → j < 64) → Same i j → j < 64
    go ih (same p q) = let l = a.1 in omega arith
    go ih (other p q) = ih (rw q at e)
few_jobs r s (h ▷ operation i sheet p k) a j e = few_jobs r s h a.0 j e
few_jobs r s (h ▷ commit i) a j e = few_jobs r s h a.0 j (both (not (eqb i j)) (opened j h) e).1
few_jobs r s (h ▷ abort i) a j e = few_jobs r s h a.0 j (both (not (eqb i j)) (opened j h) e).1

pub sweep_leaves : (r : Rule) (s : List ℕ) (h : Log Event) → Ascending s → Admitted r s h → LeftCommitted (book_after s (sweep 64 h)) s (kept s h)
sweep_leaves r s h asc a =
    let g = sweep 64 h in
    let ag = admitted_sweep r s 64 h a in
    let f = follows r s g asc ag in
    let all = all_committed g (kept s g) (owned r s g ag) none_open in
    let c = committed_sweep s 64 h in
    record {
      tiles_left_lem = f.tiles_run ∙ ap (run s) (sym all ∙ c);
      table_empty = f.table_unfinished ∙ ap unfinished (sym all) ∙ none_unfinished (kept s g);
      same_answers_left = committed_answers r s h asc a;
    }
  where
    none_open : (j : ℕ) → opened j (sweep 64 h) ≡ false
    none_open j = go (opened j (sweep 64 h)) refl
      where
        go : (b : Bool) → opened j (sweep 64 h) ≡ b → b ≡ false
        go true e = let w = swept 64 h j e in let l = few_jobs r s h a j w.0 in let m = w.1 in absurd (omega arith)
        go false e = refl
