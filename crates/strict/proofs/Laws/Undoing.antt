-- What an admitted history keeps orderly, and that orderly means strict
use Rattle.std.specs.Prelude.{Bool, ◌&&◌, ◌||◌, cond, false, not, true, List, ◌≢◌, ◌≡◌, refl, ℕ, eqb}
use Rattle.std.proofs.Math.Bool.{and-or_distrib_left, or-false}
use Rattle.std.proofs.Common.{◌∙◌, ap, sym, eqb-true}
use Rattle.lists.specs.Truth.{Same, both_false, by_cond, eqb_same, never, or_left, or_right, other, same, same?}
use Rattle.strict.specs.Commutativity.{changes}
use Rattle.strict.specs.Histories.{marked, mine, of_job}
use Rattle.strict.proofs.Laws.Members.{ascending_apply, member_apply, same_members, touch}
use Rattle.strict.specs.Operations.{Op, Step, after, answer, apply, clear, effect, inverse, put, recovery, skip, undo}
use Rattle.strict.specs.Strict.{Log, Pick, SameAnswers, Strict, ◌▷◌, back, empty, group, in_groups, run, size, without}
use Rattle.strict.specs.Tiles.{Ascending, member}
use Rattle.strict.specs.declared.Procedure.{Procedure}
use Rattle.strict.specs.declared.Procedure.TheVariants.{Del, Ins, Mem}
use Rattle.strict.specs.declared.Rule.{Rule}
use Rattle.strict.specs.declared.Rule.TheVariants.{Alone, Together}

pub touch_off : (a : Step) (m : Bool) → touch a false m ≡ m
touch_off put m = refl
touch_off clear m = refl
touch_off skip m = refl

pub touch_comm : (a b : Step) (p q m : Bool) → (p ≡ true → q ≡ true → ⊥) → touch a p (touch b q m) ≡ touch b q (touch a p m)
touch_comm a b true true m h = absurd (h refl refl)
touch_comm a b true false m h = ap (touch a true) (touch_off b m) ∙ sym (touch_off b (touch a true m))
touch_comm a b false q m h = touch_off a (touch b q m) ∙ ap (touch b q) (sym (touch_off a m))

-- the recovery takes the effect back
pub touch_back : (p : Procedure) (f here m : Bool) → (here ≡ true → f ≡ m) → touch (recovery p f) here (touch (effect p) here m) ≡ m
touch_back p f false m h = touch_off (recovery p f) (touch (effect p) false m) ∙ touch_off (effect p) m
touch_back Ins false true m h = h refl
touch_back Ins true true m h = h refl
touch_back Del true true m h = h refl
touch_back Del false true m h = h refl
touch_back Mem f true m h = refl

-- where there is nothing to take back, the effect is none
pub touch_idle : (p : Procedure) (f here m : Bool) → (here ≡ true → f ≡ m) → changes (recovery p f) && here ≡ false → touch (effect p) here m ≡ m
touch_idle p f false m h c = touch_off (effect p) m
touch_idle Ins false true m h c = never c
touch_idle Ins true true m h c = h refl
touch_idle Del true true m h c = never c
touch_idle Del false true m h c = h refl
touch_idle Mem f true m h c = refl

pub apply_comm : (a b : Step) (i j : ℕ) (s : List ℕ) → Ascending s → i ≢ j → apply a i (apply b j s) ≡ apply b j (apply a i s)
apply_comm a b i j s asc d =
    same_members _ _ (ascending_apply a i _ (ascending_apply b j s asc)) (ascending_apply b j _ (ascending_apply a i s asc))
    (λ k.
    (member_apply a k i (apply b j s) ∙ ap (touch a (eqb k i)) (member_apply b k j s))
    ∙ touch_comm a b (eqb k i) (eqb k j) (member k s) (λ p q. d (sym (eqb-true k i p) ∙ eqb-true k j q))
    ∙ sym (member_apply b k j (apply a i s) ∙ ap (touch b (eqb k j)) (member_apply a k i s)))

pub undo_after : (o : Op) (s : List ℕ) → Ascending s → o.found ≡ member o.key s → undo o (after o s) ≡ s
undo_after o s asc f =
    same_members _ _ (ascending_apply (inverse o) o.key _ (ascending_apply (effect o.proc) o.key s asc)) asc
    (λ k.
    (member_apply (inverse o) k o.key (after o s) ∙ ap (touch (inverse o) (eqb k o.key)) (member_apply (effect o.proc) k o.key s))
    ∙ touch_back o.proc o.found (eqb k o.key) (member k s) (λ e. f ∙ ap (λ x. member x s) (sym (eqb-true k o.key e))))

pub run_ascending : (s : List ℕ) (os : Log Op) → Ascending s → Ascending (run s os)
run_ascending s empty asc = asc
run_ascending s (os ▷ o) asc = ascending_apply (effect o.proc) o.key (run s os) (run_ascending s os asc)

-- an unfinished operation, none that own tests, changed tile k
abbrev pub pinned : (Op → Bool) → ℕ → Log Op → Bool
pinned own k empty = false
pinned own k (os ▷ u) = pinned own k os || (not u.done && (not (own u) && (changes (inverse u) && eqb k u.key)))

-- o may be on a tile that u changed
abbrev pub own : Rule → Op → Op → Bool
own Alone o u = false
own Together o u = mine u.job o

-- each found what it says; and where an unfinished one changed a tile, no later one (but of that job) is on that tile
abbrev pub Orderly : Rule → List ℕ → Log Op → Type 0
Orderly r s empty = Unit {0}
Orderly r s (os ▷ o) = Orderly r s os × (o.found ≡ member o.key (run s os)) × (pinned (own r o) o.key os ≡ false)

-- one that p picks changed tile k
abbrev pub changed_by : Pick → ℕ → Log Op → Bool
changed_by p k empty = false
changed_by p k (os ▷ o) = changed_by p k os || (p os o && (changes (inverse o) && eqb k o.key))

-- what p leaves is on no tile that one it picks changed before
abbrev pub Apart : Rule → Pick → Type 0
Apart r p = (os : Log Op) (o : Op) → pinned (own r o) o.key os ≡ false → p os o ≡ false → changed_by p o.key os ≡ false

-- any choice of unfinished ones is so where each fails alone
pub alone_apart : (q : Pick) → Apart Alone (λ os o. not o.done && q os o)
alone_apart q empty o h e = refl
alone_apart q (os ▷ u) o h e =
    both_false (alone_apart q os (marked o true) (or_left (pinned (own Alone o) o.key os) _ h) refl)
    (go u.done (q os u) (changes (inverse u) && eqb o.key u.key) (or_right (pinned (own Alone o) o.key os) _ h))
  where
    go : (d x c : Bool) → not d && (true && c) ≡ false → (not d && x) && c ≡ false
    go true x c z = refl
    go false true c z = z
    go false false c z = refl

-- and so are whole jobs where a job fails as one
jobs_apart : (d : ℕ → Bool) → Apart Together (in_groups Together d)
jobs_apart d empty o h e = refl
jobs_apart d (os ▷ u) o h e =
    both_false (jobs_apart d os o (or_left (pinned (own Together o) o.key os) _ h) e)
    (go u.done (d u.job) refl o.done (same? u.job o.job) (or_right (pinned (own Together o) o.key os) _ h) e)
  where
    c : Bool
    c = changes (inverse u) && eqb o.key u.key

    go : (a x : Bool) → d u.job ≡ x → (b : Bool) → Same u.job o.job → not a && (not (not b && eqb u.job o.job) && c) ≡ false
        → not b && d o.job ≡ false → (not a && x) && c ≡ false
    go true x y b s h e = refl
    go false false y b s h e = refl
    go false true y true s h e = h
    go false true y false (same p q) h e = never (sym y ∙ ap d p ∙ e)
    go false true y false (other p q) h e = rw q at h

pub groups_apart : (r : Rule) (d : ℕ → Bool) → Apart r (in_groups r d)
groups_apart Alone d = alone_apart (λ os o. d (size os))
groups_apart Together d = jobs_apart d

pub job_apart : (r : Rule) (j : ℕ) → Apart r (of_job j)
job_apart Alone j = alone_apart (λ os o. eqb j o.job)
job_apart Together j = jobs_apart (eqb j)

-- to drop such ones keeps a list orderly, and leaves each tile that none of them changed
pub record Chosen (r : Rule) (s : List ℕ) (os : Log Op) (p : Pick) (cs : Log Op) : Type 0 where
  pub orderly : Orderly r s cs
  pub agree : (k : ℕ) → changed_by p k os ≡ false → member k (run s cs) ≡ member k (run s os)

pinned_without : (p : Pick) (x : Op → Bool) (k : ℕ) (os : Log Op) → pinned x k os ≡ false → pinned x k (without p os) ≡ false
pinned_without p x k empty h = refl
pinned_without p x k (os ▷ o) h =
    let ih = pinned_without p x k os (or_left (pinned x k os) _ h) in
    by_cond (λ l. pinned x k l ≡ false) (p os o) (λ e. ih) (λ e. both_false ih (or_right (pinned x k os) _ h))

pub chosen : (r : Rule) (s : List ℕ) (p : Pick) → Apart r p → (os : Log Op) → Orderly r s os → Chosen r s os p (without p os)
chosen r s p w empty h = record { orderly = tt; agree = λ k q. refl }
chosen r s p w (os ▷ o) h =
    let ih = chosen r s p w os h.0 in
    by_cond (Chosen r s (os ▷ o) p) (p os o)
    (λ e. record {
      orderly = ih.orderly;
      agree = λ k q. ih.agree k (or_left (changed_by p k os) _ q) ∙ sym (idle k (rw e at (or_right (changed_by p k os) _ q)));
    })
    (λ e. record {
      orderly = (ih.orderly, h.1 ∙ sym (ih.agree o.key (w os o h.2 e)), pinned_without p (own r o) o.key os h.2);
      agree = λ k q. member_apply (effect o.proc) k o.key (run s (without p os))
          ∙ ap (touch (effect o.proc) (eqb k o.key)) (ih.agree k (or_left (changed_by p k os) _ q))
          ∙ sym (member_apply (effect o.proc) k o.key (run s os));
    })
  where
    idle : (k : ℕ) → changes (inverse o) && eqb k o.key ≡ false → member k (after o (run s os)) ≡ member k (run s os)
    idle k q =
        member_apply (effect o.proc) k o.key (run s os)
        ∙ touch_idle o.proc o.found (eqb k o.key) (member k (run s os)) (λ e. h.1 ∙ ap (λ x. member x (run s os)) (sym (eqb-true k o.key e))) q

-- orderly lists are recoverable
orderly_answers : (r : Rule) (s : List ℕ) (os : Log Op) → Orderly r s os → SameAnswers s os
orderly_answers r s empty h = tt
orderly_answers r s (os ▷ o) h = (orderly_answers r s os h.0, ap (answer o.proc) (sym h.1))

differs : (i k : ℕ) → eqb k i ≡ false → i ≢ k
differs i k e p = never (sym (eqb_same i) ∙ ap (λ x. eqb x i) p ∙ e)

pub undo_comm : (r : Step) (i : ℕ) (a : Step) (k : ℕ) (t : List ℕ) → Ascending t → changes r && eqb k i ≡ false
    → apply r i (apply a k t) ≡ apply a k (apply r i t)
undo_comm put i a k t asc q = apply_comm put a i k t asc (differs i k q)
undo_comm clear i a k t asc q = apply_comm clear a i k t asc (differs i k q)
undo_comm skip i a k t asc q = refl

back_comm : (q : Pick) (os : Log Op) (a : Step) (k : ℕ) (t : List ℕ) → Ascending t → changed_by q k os ≡ false
    → back q os (apply a k t) ≡ apply a k (back q os t)
back_comm q empty a k t asc h = refl
back_comm q (os ▷ o) a k t asc h = go (λ t asc. back_comm q os a k t asc (or_left (changed_by q k os) _ h)) (q os o) (or_right (changed_by q k os) _ h)
  where
    go : ((t : List ℕ) → Ascending t → back q os (apply a k t) ≡ apply a k (back q os t)) → (b : Bool)
        → b && (changes (inverse o) && eqb k o.key) ≡ false
        → back q os (cond b (undo o (apply a k t)) (apply a k t)) ≡ apply a k (back q os (cond b (undo o t) t))
    go ih true e = ap (back q os) (undo_comm (inverse o) o.key a k t asc e) ∙ ih (undo o t) (ascending_apply (inverse o) o.key t asc)
    go ih false e = ih t asc

-- those that q picks are undone at the end of a list without those that p picks
pub orderly_undone : (r : Rule) (s : List ℕ) (p q : Pick) → Ascending s → Apart r p → Apart r q
    → ((os : Log Op) (o : Op) → p os o ≡ true → q os o ≡ false)
    → (os : Log Op) → Orderly r s os → back q os (run s (without p os)) ≡ run s (without (λ l o. q l o || p l o) os)
orderly_undone r s p q asc wp wq differs empty h = refl
orderly_undone r s p q asc wp wq differs (os ▷ o) h =
    go (p os o) refl (q os o) refl (differs os o) (orderly_undone r s p q asc wp wq differs os h.0)
  where
    ps : Log Op
    ps = without p os

    qs : Log Op
    qs = without (λ l o. q l o || p l o) os

    go : (a : Bool) → p os o ≡ a → (b : Bool) → q os o ≡ b → (a ≡ true → b ≡ false) → back q os (run s ps) ≡ run s qs
        → back q os (cond b (undo o (run s (cond a ps (ps ▷ o)))) (run s (cond a ps (ps ▷ o)))) ≡ run s (cond (b || a) qs (qs ▷ o))
    go true e true f x ih = never (x refl)
    go true e false f x ih = ih
    go false e true f x ih = ap (back q os) (undo_after o (run s ps) (run_ascending s ps asc) (h.1 ∙ sym ((chosen r s p wp os h.0).agree o.key (wp os o h.2 e))))
        ∙ ih
    go false e false f x ih =
        back_comm q os (effect o.proc) o.key (run s ps) (run_ascending s ps asc) (wq os o h.2 f) ∙ ap (after o) ih

pub without_none : (os : Log Op) → without (λ l o. false) os ≡ os
without_none empty = refl
without_none (os ▷ o) = ap (λ l. l ▷ o) (without_none os)

-- undoing at the end of the whole list
pub orderly_back : (r : Rule) (s : List ℕ) (q : Pick) → Ascending s → Apart r q → (os : Log Op) → Orderly r s os
    → back q os (run s os) ≡ run s (without q os)
orderly_back r s q asc w os h =
    ap (λ l. back q os (run s l)) (sym (without_none os))
    ∙ orderly_undone r s (λ l o. false) q asc (λ l o x y. none l o.key) w (λ l o e. never (sym e)) os h
    ∙ ap (λ p. run s (without p os)) (λ i l o. or-false (q l o) i)
  where
    none : (l : Log Op) (k : ℕ) → changed_by (λ l o. false) k l ≡ false
    none empty k = refl
    none (l ▷ o) k = both_false (none l k) refl

-- orderly lists are strict
pub orderly_strict : (r : Rule) (s : List ℕ) (os : Log Op) → Ascending s → Orderly r s os → Strict r s os
orderly_strict r s os asc h d =
    record {
      same_answers = orderly_answers r s (without (in_groups r d) os) (chosen r s (in_groups r d) (groups_apart r d) os h).orderly;
      taken_back = λ g x.
          orderly_undone r s (in_groups r d) (in_groups r (eqb g)) asc (groups_apart r d) (groups_apart r (eqb g)) (λ l o. other_group g x o.done (group r l o)) os h
          ∙ ap (λ p. run s (without p os)) (λ i l o. sym (and-or_distrib_left (not o.done) (eqb g (group r l o)) (d (group r l o))) i);
    }
  where
    other_group : (g : ℕ) → d g ≡ false → (b : Bool) (i : ℕ) → not b && d i ≡ true → not b && eqb g i ≡ false
    other_group g x true i e = refl
    other_group g x false i e = go (same? g i)
      where
        go : Same g i → eqb g i ≡ false
        go (same p q) = never (sym e ∙ ap d (sym p) ∙ x)
        go (other p q) = q
