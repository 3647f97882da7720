-- The operations of openings that commit, found among the records, are the committed ones that a history keeps
use Rattle.std.specs.Prelude.{Bool, ◌&&◌, ◌||◌, cond, false, not, true, List, [], ◌++◌, ◌∷◌, ◌≡◌, refl, ℕ, eqb, replicate}
use Rattle.std.proofs.Common.{append-nil, ⊎_elim, ◌∙◌, ap, ap₂, subst, sym, arith}
use Rattle.strict.specs.Histories.{Event, abort, commit, committed, finish, kept, open_job, operation, strike}
use Rattle.strict.specs.Operations.{Op, answer, apply, effect}
use Rattle.strict.specs.Strict.{Log, SameAnswers, ◌▷◌, empty, run}
use Rattle.strict.specs.Tiles.{member}
use Rattle.strict.specs.declared.Rule.{Rule}
use Rattle.service.specs.Admission.{answer_on, marks_after}
use Rattle.service.specs.Claims.{tiles_after}
use Rattle.service.proofs.Laws.Performing.{performs}
use Rattle.service.specs.Limits.{job_count}
use Rattle.service.specs.declared.Operation.{Operation}
use Rattle.service.specs.declared.Read.TheVariants.{Cut, End, Ruled, Whole}
use Rattle.service.specs.declared.Record.TheVariants.{Abort, Commit, Open, Performed, Sheeted}
use Rattle.service.specs.declared.Record.{Record}
use Rattle.readback.specs.Claims.{Reads, Stops, more, past, records, stay}
use Rattle.readback.specs.Reading.{read_at}
use Rattle.rebuilding.specs.Claims.{AsRecorded, commits, lasting, marks_from, run_alone}
use Rattle.rebuilding.proofs.Laws.Replaying.{event_back}
use Rattle.rebuilding.specs.Replay.{event_of}

-- with f for the jobs whose end is not among the records
abbrev commits_or : (ℕ → Bool) → ℕ → List Record → Bool
commits_or f job [] = f job
commits_or f job (Open i ∷ rs) = commits_or f job rs
commits_or f job (Performed o ∷ rs) = commits_or f job rs
commits_or f job (Sheeted o sheet ∷ rs) = commits_or f job rs
commits_or f job (Commit i ∷ rs) = eqb i job || commits_or f job rs
commits_or f job (Abort i ∷ rs) = not (eqb i job) && commits_or f job rs

abbrev lasting_or : (ℕ → Bool) → List Record → List Operation
lasting_or f [] = []
lasting_or f (Open i ∷ rs) = lasting_or f rs
lasting_or f (Performed o ∷ rs) = cond (commits_or f o.job rs) (o ∷ lasting_or f rs) (lasting_or f rs)
lasting_or f (Sheeted o sheet ∷ rs) = cond (commits_or f o.job rs) (o ∷ lasting_or f rs) (lasting_or f rs)
lasting_or f (Commit i ∷ rs) = lasting_or f rs
lasting_or f (Abort i ∷ rs) = lasting_or f rs

abbrev undecided : ℕ → Bool
undecided job = false

commits_or_lem : (job : ℕ) (rs : List Record) → commits job rs ≡ commits_or undecided job rs
commits_or_lem job [] = refl
commits_or_lem job (Open i ∷ rs) = commits_or_lem job rs
commits_or_lem job (Performed o ∷ rs) = commits_or_lem job rs
commits_or_lem job (Sheeted o sheet ∷ rs) = commits_or_lem job rs
commits_or_lem job (Commit i ∷ rs) = ap (λ b. eqb i job || b) (commits_or_lem job rs)
commits_or_lem job (Abort i ∷ rs) = ap (λ b. not (eqb i job) && b) (commits_or_lem job rs)

lasting_or_lem : (rs : List Record) → lasting rs ≡ lasting_or undecided rs
lasting_or_lem [] = refl
lasting_or_lem (Open i ∷ rs) = lasting_or_lem rs
lasting_or_lem (Performed o ∷ rs) = ap₂ (λ b l. cond b (o ∷ l) l) (commits_or_lem o.job rs) (lasting_or_lem rs)
lasting_or_lem (Sheeted o sheet ∷ rs) = ap₂ (λ b l. cond b (o ∷ l) l) (commits_or_lem o.job rs) (lasting_or_lem rs)
lasting_or_lem (Commit i ∷ rs) = lasting_or_lem rs
lasting_or_lem (Abort i ∷ rs) = lasting_or_lem rs

-- one record more
abbrev decide : (ℕ → Bool) → Record → ℕ → Bool
decide f (Open i) job = f job
decide f (Performed o) job = f job
decide f (Sheeted o sheet) job = f job
decide f (Commit i) job = eqb i job || f job
decide f (Abort i) job = not (eqb i job) && f job

abbrev own : (ℕ → Bool) → Record → List Operation
own f (Open i) = []
own f (Performed o) = cond (f o.job) (o ∷ []) []
own f (Sheeted o sheet) = cond (f o.job) (o ∷ []) []
own f (Commit i) = []
own f (Abort i) = []

commits_last : (f : ℕ → Bool) (job : ℕ) (rs : List Record) (r : Record) → commits_or f job (rs ++ (r ∷ [])) ≡ commits_or (decide f r) job rs
commits_last f job [] (Open i) = refl
commits_last f job [] (Performed o) = refl
commits_last f job [] (Sheeted o sheet) = refl
commits_last f job [] (Commit i) = refl
commits_last f job [] (Abort i) = refl
commits_last f job (Open i ∷ rs) r = commits_last f job rs r
commits_last f job (Performed o ∷ rs) r = commits_last f job rs r
commits_last f job (Sheeted o sheet ∷ rs) r = commits_last f job rs r
commits_last f job (Commit i ∷ rs) r = ap (λ b. eqb i job || b) (commits_last f job rs r)
commits_last f job (Abort i ∷ rs) r = ap (λ b. not (eqb i job) && b) (commits_last f job rs r)

kept_first : (o : Operation) (b : Bool) (xs ys : List Operation) → cond b (o ∷ (xs ++ ys)) (xs ++ ys) ≡ cond b (o ∷ xs) xs ++ ys
kept_first o true xs ys = refl
kept_first o false xs ys = refl

lasting_last : (f : ℕ → Bool) (rs : List Record) (r : Record) → lasting_or f (rs ++ (r ∷ [])) ≡ lasting_or (decide f r) rs ++ own f r
lasting_last f [] (Open i) = refl
lasting_last f [] (Performed o) = refl
lasting_last f [] (Sheeted o sheet) = refl
lasting_last f [] (Commit i) = refl
lasting_last f [] (Abort i) = refl
lasting_last f (Open i ∷ rs) r = lasting_last f rs r
lasting_last f (Performed o ∷ rs) r =
    ap₂ (λ b l. cond b (o ∷ l) l) (commits_last f o.job rs r) (lasting_last f rs r) ∙ kept_first o (commits_or (decide f r) o.job rs) (lasting_or (decide f r) rs) (own f r)
lasting_last f (Sheeted o sheet ∷ rs) r =
    ap₂ (λ b l. cond b (o ∷ l) l) (commits_last f o.job rs r) (lasting_last f rs r) ∙ kept_first o (commits_or (decide f r) o.job rs) (lasting_or (decide f r) rs) (own f r)
lasting_last f (Commit i ∷ rs) r = lasting_last f rs r
lasting_last f (Abort i ∷ rs) r = lasting_last f rs r

-- the same, of kept operations
abbrev noted : Op → Operation
noted o = record { job = o.job; procedure = o.proc; answer = answer o.proc o.found; key = o.key }

abbrev picks : (ℕ → Bool) → Log Op → List Operation
picks f empty = []
picks f (os ▷ o) = picks f os ++ cond (o.done || f o.job) (noted o ∷ []) []

picks_finish : (f : ℕ → Bool) (j : ℕ) (os : Log Op) → picks (λ i. eqb j i || f i) os ≡ picks f (finish j os)
picks_finish f j empty = refl
picks_finish f j (os ▷ o) = ap₂ (λ l b. l ++ cond b (noted o ∷ []) []) (picks_finish f j os) (go o.done (eqb j o.job) (f o.job))
  where
    go : (d e g : Bool) → d || (e || g) ≡ (d || e) || g
    go true e g = refl
    go false e g = refl

picks_strike : (f : ℕ → Bool) (j : ℕ) (os : Log Op) → picks (λ i. not (eqb j i) && f i) os ≡ picks f (strike j os)
picks_strike f j empty = refl
picks_strike f j (os ▷ o) = ap (λ l. l ++ cond (o.done || (not (eqb j o.job) && f o.job)) (noted o ∷ []) []) (picks_strike f j os)
    ∙ go o.done refl (eqb j o.job)
  where
    go : (d : Bool) → o.done ≡ d → (e : Bool)
        → picks f (strike j os) ++ cond (d || (not e && f o.job)) (noted o ∷ []) [] ≡ picks f (cond (not d && e) (strike j os) (strike j os ▷ o))
    go true q e = ap (λ d. picks f (strike j os) ++ cond (d || f o.job) (noted o ∷ []) []) (sym q)
    go false q true = append-nil (picks f (strike j os))
    go false q false = ap (λ d. picks f (strike j os) ++ cond (d || f o.job) (noted o ∷ []) []) (sym q)

lasting_picks : (s : List ℕ) (h : Log Event) (f : ℕ → Bool) → lasting_or f (records s h) ≡ picks f (kept s h)
lasting_picks s empty f = refl
lasting_picks s (h ▷ open_job j) f = lasting_last f (records s h) (Open j) ∙ append-nil (lasting_or f (records s h)) ∙ lasting_picks s h f
lasting_picks s (h ▷ operation j sheet p k) f =
    lasting_last f (records s h) (Sheeted (record { job = j; procedure = p; answer = answer p (member k (tiles_after s h)); key = k }) sheet)
    ∙ ap (λ l. l ++ cond (f j) (record { job = j; procedure = p; answer = answer p (member k (tiles_after s h)); key = k } ∷ []) []) (lasting_picks s h f)
lasting_picks s (h ▷ commit j) f =
    lasting_last f (records s h) (Commit j)
    ∙ append-nil (lasting_or (λ i. eqb j i || f i) (records s h))
    ∙ lasting_picks s h (λ i. eqb j i || f i)
    ∙ picks_finish f j (kept s h)
lasting_picks s (h ▷ abort j) f =
    lasting_last f (records s h) (Abort j)
    ∙ append-nil (lasting_or (λ i. not (eqb j i) && f i) (records s h))
    ∙ lasting_picks s h (λ i. not (eqb j i) && f i)
    ∙ picks_strike f j (kept s h)

-- run alone
alone_last : (t : List ℕ) (os : List Operation) (o : Operation) → run_alone t (os ++ (o ∷ [])) ≡ apply (effect o.procedure) o.key (run_alone t os)
alone_last t [] o = refl
alone_last t (x ∷ os) o = alone_last (apply (effect x.procedure) x.key t) os o

recorded_last : (t : List ℕ) (os : List Operation) (o : Operation) → AsRecorded t os
    → answer o.procedure (member o.key (run_alone t os)) ≡ o.answer
    → AsRecorded t (os ++ (o ∷ []))
recorded_last t [] o h e = (e, tt)
recorded_last t (x ∷ os) o h e = (h.0, recorded_last (apply (effect x.procedure) x.key t) os o h.1 e)

alone_picks : (s : List ℕ) (os : Log Op) → run_alone s (picks undecided os) ≡ run s (committed os)
alone_picks s empty = refl
alone_picks s (os ▷ o) = go o.done (alone_picks s os)
  where
    go : (d : Bool) → run_alone s (picks undecided os) ≡ run s (committed os)
        → run_alone s (picks undecided os ++ cond (d || false) (noted o ∷ []) []) ≡ run s (cond (not d) (committed os) (committed os ▷ o))
    go true ih = alone_last s (picks undecided os) (noted o) ∙ ap (apply (effect o.proc) o.key) ih
    go false ih = ap (run_alone s) (append-nil (picks undecided os)) ∙ ih

recorded_picks : (s : List ℕ) (os : Log Op) → SameAnswers s (committed os) → AsRecorded s (picks undecided os)
recorded_picks s empty h = tt
recorded_picks s (os ▷ o) h = go o.done h (recorded_picks s os)
  where
    go : (d : Bool) → SameAnswers s (cond (not d) (committed os) (committed os ▷ o))
        → (SameAnswers s (committed os) → AsRecorded s (picks undecided os))
        → AsRecorded s (picks undecided os ++ cond (d || false) (noted o ∷ []) [])
    go true a ih = recorded_last s (picks undecided os) (noted o) (ih a.0) (ap (λ t. answer o.proc (member o.key t)) (alone_picks s os) ∙ a.1)
    go false a ih = subst (AsRecorded s) (sym (append-nil (picks undecided os))) (ih a)

module _ (s : List ℕ) (h : Log Event) where
  lasting_kept : lasting (records s h) ≡ picks undecided (kept s h)
  lasting_kept = lasting_or_lem (records s h) ∙ lasting_picks s h undecided

  pub alone_committed : run_alone s (lasting (records s h)) ≡ run s (committed (kept s h))
  alone_committed = ap (run_alone s) lasting_kept ∙ alone_picks s (kept s h)

  pub recorded_committed : SameAnswers s (committed (kept s h)) → AsRecorded s (lasting (records s h))
  recorded_committed a = subst (AsRecorded s) (sym lasting_kept) (recorded_picks s (kept s h) a)

-- marks
marks_last : (ms : List Bool) (rs : List Record) (r : Record) → marks_from ms (rs ++ (r ∷ [])) ≡ marks_after (marks_from ms rs) (event_of r)
marks_last ms [] r = refl
marks_last ms (x ∷ rs) r = marks_last (marks_after ms (event_of x)) rs r

pub marks_records : (r : Rule) (s : List ℕ) (h : Log Event) → marks_from (replicate job_count false) (records s h) ≡ (performs r s h).marks
marks_records r s empty = refl
marks_records r s (h ▷ e) =
    marks_last (replicate job_count false) (records s h) _
    ∙ ap₂ marks_after (marks_records r s h) (event_back e (answer_on (tiles_after s h) e))

-- a journal is read in one way
stop_whole : (j : List ℕ) (at : ℕ) (r : Record) (n : ℕ) → Stops (read_at j at) → read_at j at ≡ Whole r n → ⊥
stop_whole j at r n s e =
    ⊎_elim (λ (q : read_at j at ≡ End). let z : ◌≡◌ {A = ℕ} 0 1 = cc in omega arith)
    (λ (q : read_at j at ≡ Cut). let z : ◌≡◌ {A = ℕ} 0 1 = cc in omega arith) s

stop_ruled : (j : List ℕ) (at n : ℕ) → Stops (read_at j at) → read_at j at ≡ Ruled n → ⊥
stop_ruled j at n s e =
    ⊎_elim (λ (q : read_at j at ≡ End). let z : ◌≡◌ {A = ℕ} 0 1 = cc in omega arith)
    (λ (q : read_at j at ≡ Cut). let z : ◌≡◌ {A = ℕ} 0 1 = cc in omega arith) s

ruled_whole : (j : List ℕ) (a b : ℕ) (r : Record) (n m : ℕ) → a ≡ b → read_at j a ≡ Ruled n → read_at j b ≡ Whole r m → ⊥
ruled_whole j a b r n m p e f = let g : read_at j a ≡ Whole r m = ap (read_at j) p ∙ f in let z : ◌≡◌ {A = ℕ} 0 1 = cc in omega arith

pub reads_once : {j : List ℕ} {a b c d : ℕ} {rs qs : List Record} → a ≡ b → Reads j a rs c → Stops (read_at j c) → Reads j b qs d → Stops (read_at j d)
    → (rs ≡ qs) × (c ≡ d)
reads_once p stay x stay y = (refl, p)
reads_once {j} p stay x (more {at = b} {next = n} {r = r} e z) y = absurd (stop_whole j b r n (subst (λ i. Stops (read_at j i)) p x) e)
reads_once {j} p (more {at = a} {next = n} {r = r} e z) x stay y = absurd (stop_whole j a r n (subst (λ i. Stops (read_at j i)) (sym p) y) e)
reads_once {j} p (more {at = a} {next = n} {r = r} {rs = rs} e z) x (more {at = b} {next = m} {r = q} {rs = qs} f u) y =
    let g : read_at j a ≡ Whole q m = ap (read_at j) p ∙ f in
    let n≡m : n ≡ m = cc in
    let r≡q : r ≡ q = cc in
    let i = reads_once n≡m z x u y in
    (ap₂ {C = List Record} (λ h t. h ∷ t) r≡q i.0, i.1)
reads_once {j} p stay x (past {at = b} {next = n} e z) y = absurd (stop_ruled j b n (subst (λ i. Stops (read_at j i)) p x) e)
reads_once {j} p (past {at = a} {next = n} e z) x stay y = absurd (stop_ruled j a n (subst (λ i. Stops (read_at j i)) (sym p) y) e)
reads_once {j} p (more {at = a} {next = n} {r = r} e z) x (past {at = b} {next = m} f u) y = absurd (ruled_whole j b a r m n (sym p) f e)
reads_once {j} p (past {at = a} {next = n} e z) x (more {at = b} {next = m} {r = r} f u) y = absurd (ruled_whole j a b r n m p e f)
reads_once {j} p (past {at = a} {next = n} e z) x (past {at = b} {next = m} f u) y =
    let g : read_at j a ≡ Ruled m = ap (read_at j) p ∙ f in
    let n≡m : n ≡ m = cc in
    reads_once n≡m z x u y
