-- Strict by places and strict by lists are the same
use Rattle.std.specs.Prelude.{Bool, ◌&&◌, ◌||◌, cond, false, not, true, List, ◌≡◌, refl, ◌<◌, ℕ, eqb}
use Rattle.std.proofs.Common.{◌∙◌, ap, ap₂, subst, subst₂, sym, arith, ne_eqb}
use Rattle.lists.specs.Truth.{Same, eqb_same, other, same, same?}
use Rattle.strict.specs.Choices.{Choice, StrictLists, Without, before, drops, keeps, last, nothing}
use Rattle.strict.proofs.Laws.Exactness.{back_last, back_past, last_goes, last_stays, without_beyond}
use Rattle.strict.proofs.Laws.Holding.{back_beyond}
use Rattle.strict.specs.Operations.{Op, undo}
use Rattle.strict.specs.Strict.{Log, Pick, SameAnswers, Strict, ◌▷◌, back, empty, in_groups, run, size, without}
use Rattle.strict.specs.declared.Rule.TheVariants.{Alone}

abbrev left : (ℕ → Bool) → Log Op → Log Op
left d os = without (in_groups Alone d) os

abbrev either : ℕ → (ℕ → Bool) → ℕ → Bool
either g d i = eqb g i || d i

-- from lists to places
-- d says true, or false, of the place n, and what e says of all others
abbrev says : ℕ → Bool → (ℕ → Bool) → ℕ → Bool
says n b e i = cond (eqb n i) b (e i)

abbrev pub dropped : {os cs : Log Op} → Choice os cs → ℕ → Bool
dropped nothing i = false
dropped (keeps {os = os} o c) i = says (size os) false (dropped c) i
dropped (drops {os = os} o d c) i = says (size os) true (dropped c) i

says_here : (n : ℕ) (b : Bool) (e : ℕ → Bool) → says n b e n ≡ b
says_here n b e = ap (λ x. cond x b (e n)) (eqb_same n)

says_before : (b : Bool) (e : ℕ → Bool) (n i : ℕ) → i < n → says n b e i ≡ e i
says_before b e n i h = ap (λ x. cond x b (e i)) (ne_eqb n i (omega arith))

pub dropped_left : {os cs : Log Op} (c : Choice os cs) → left (dropped c) os ≡ cs
dropped_left nothing = refl
dropped_left (keeps {os = os} o c) =
    last_stays os o (says (size os) false (dropped c)) (says_here (size os) false (dropped c))
    ∙ ap (λ l. l ▷ o) (without_beyond (says (size os) false (dropped c)) (dropped c) os (says_before false (dropped c) (size os)) ∙ dropped_left c)
dropped_left (drops {os = os} o d c) =
    last_goes os o (says (size os) true (dropped c)) d (says_here (size os) true (dropped c))
    ∙ without_beyond (says (size os) true (dropped c)) (dropped c) os (says_before true (dropped c) (size os)) ∙ dropped_left c

record Spot (os : Log Op) (d : ℕ → Bool) (o : Op) (rest : Log Op) : Type 0 where
  place : ℕ
  in_list : place < size os
  still_in : d place ≡ false
  undoes : (t : List ℕ) → back (in_groups Alone (eqb place)) os t ≡ undo o t
  leaves : left (either place d) os ≡ rest

spot : {os cs rest : Log Op} {o : Op} (c : Choice os cs) → Without cs o rest → o.done ≡ false → Spot os (dropped c) o rest
spot nothing w new = elim w [ ]
spot (keeps {os = os} o c) last new =
    let n = size os in
    record {
      place = n;
      in_list = omega arith;
      still_in = says_here n false (dropped c);
      undoes = λ t. back_last os o (eqb n) t new (eqb_same n) (λ i l. ne_eqb n i (omega arith));
      leaves = last_goes os o (either n (says n false (dropped c))) new (ap (λ b. b || says n false (dropped c) n) (eqb_same n))
          ∙ without_beyond (either n (says n false (dropped c))) (dropped c) os (λ i l. ap₂ (λ a b. a || b) (ne_eqb n i (omega arith)) (says_before false (dropped c) n i l))
          ∙ dropped_left c;
    }
spot (keeps {os = os} p c) (before p₁ w) new =
    let n = size os in
    let i = spot c w new in
    let l = i.in_list in
    let g = i.place in
    record {
      place = g;
      in_list = omega arith;
      still_in = says_before false (dropped c) n g l ∙ i.still_in;
      undoes = λ t. back_past os p (eqb g) t (ne_eqb g n (omega arith)) ∙ i.undoes t;
      leaves = last_stays os p (either g (says n false (dropped c))) (ap₂ (λ a b. a || b) (ne_eqb g n (omega arith)) (says_here n false (dropped c)))
          ∙ ap (λ l. l ▷ p) (without_beyond (either g (says n false (dropped c))) (either g (dropped c)) os (λ x h. ap (λ b. eqb g x || b) (says_before false (dropped c) n x h)) ∙ i.leaves);
    }
spot (drops {os = os} p d c) w new =
    let n = size os in
    let i = spot c w new in
    let l = i.in_list in
    let g = i.place in
    record {
      place = g;
      in_list = omega arith;
      still_in = says_before true (dropped c) n g l ∙ i.still_in;
      undoes = λ t. back_past os p (eqb g) t (ne_eqb g n (omega arith)) ∙ i.undoes t;
      leaves = last_goes os p (either g (says n true (dropped c))) d (ap₂ (λ a b. a || b) (ne_eqb g n (omega arith)) (says_here n true (dropped c)))
          ∙ without_beyond (either g (says n true (dropped c))) (either g (dropped c)) os (λ x h. ap (λ b. eqb g x || b) (says_before true (dropped c) n x h))
          ∙ i.leaves;
    }

pub to_lists : (s : List ℕ) (os : Log Op) → Strict Alone s os → StrictLists s os
to_lists s os strict cs c =
    let r = strict (dropped c) in
    record {
      same_answers = subst (SameAnswers s) (dropped_left c) r.same_answers;
      taken_back = λ o rest w new.
          let i = spot c w new in
          sym (i.undoes (run s cs)) ∙ ap (λ l. back (in_groups Alone (eqb i.place)) os (run s l)) (sym (dropped_left c))
          ∙ r.taken_back i.place i.still_in ∙ ap (run s) i.leaves;
    }

-- From places to lists
pub choice : (q : Pick) (os : Log Op) → Choice os (without (λ l o. not o.done && q l o) os)
choice q empty = nothing
choice q (os ▷ o) = go o.done refl (q os o) (choice q os)
  where
    go : (a : Bool) → o.done ≡ a → (b : Bool) → Choice os (without (λ l o. not o.done && q l o) os)
        → Choice (os ▷ o) (cond (not a && b) (without (λ l o. not o.done && q l o) os) (without (λ l o. not o.done && q l o) os ▷ o))
    go true e b c = keeps o c
    go false e true c = drops o e c
    go false e false c = keeps o c

data Where (os cs : Log Op) (g : ℕ) (gone : Log Op) : Type 0 where
  here : (o : Op) → Without cs o gone → o.done ≡ false → ((t : List ℕ) → back (in_groups Alone (eqb g)) os t ≡ undo o t) → Where os cs g gone
  nowhere : ((t : List ℕ) → back (in_groups Alone (eqb g)) os t ≡ t) → gone ≡ cs → Where os cs g gone

where_is : (d : ℕ → Bool) (g : ℕ) → d g ≡ false → (os : Log Op) → Where os (left d os) g (left (either g d) os)
where_is d g x empty = nowhere (λ t. refl) refl
where_is d g x (os ▷ o) = go (same? g (size os)) o.done refl (where_is d g x os)
  where
    n : ℕ
    n = size os

    cs : Log Op
    cs = left d os

    gone : Log Op
    gone = left (either g d) os

    beyond : g ≡ n → gone ≡ cs
    beyond p = without_beyond (either g d) d os (λ i l. ap (λ b. b || d i) (ne_eqb g i (omega arith)))

    past : eqb g n ≡ false → (a : Bool) → Where os cs g gone → Where (os ▷ o) (cond a cs (cs ▷ o)) g (cond a gone (gone ▷ o))
    past q true (here u w new f) = here u w new (λ t. back_past os o (eqb g) t q ∙ f t)
    past q true (nowhere f e) = nowhere (λ t. back_past os o (eqb g) t q ∙ f t) e
    past q false (here u w new f) = here u (before o w) new (λ t. back_past os o (eqb g) t q ∙ f t)
    past q false (nowhere f e) = nowhere (λ t. back_past os o (eqb g) t q ∙ f t) (ap (λ l. l ▷ o) e)

    go : Same g n → (b : Bool) → o.done ≡ b → Where os cs g gone
        → Where (os ▷ o) (cond (not b && d n) cs (cs ▷ o)) g (cond (not b && (eqb g n || d n)) gone (gone ▷ o))
    go (same p q) true e ih =
        nowhere (λ t. ap (λ a. back (in_groups Alone (eqb g)) os (cond (not a && eqb g n) (undo o t) t)) e ∙ back_beyond (eqb g) os t (λ i l. ne_eqb g i (omega arith)))
        (ap (λ l. l ▷ o) (beyond p))
    go (same p q) false e ih =
        subst₂ (λ a c. Where (os ▷ o) (cond (d n) cs (cs ▷ o)) g (cond (a || d n) c (gone ▷ o))) (sym q) (sym (beyond p))
        (subst (λ a. Where (os ▷ o) (cond a cs (cs ▷ o)) g cs) (sym (ap d (sym p) ∙ x))
        (here o last e (λ t. back_last os o (eqb g) t e q (λ i l. ne_eqb g i (omega arith)))))
    go (other p q) b e ih = subst (λ a. Where (os ▷ o) (cond (not b && d n) cs (cs ▷ o)) g (cond (not b && (a || d n)) gone (gone ▷ o))) (sym q) (past q (not b && d n) ih)

pub to_places : (s : List ℕ) (os : Log Op) → StrictLists s os → Strict Alone s os
to_places s os strict d =
    let r = strict (left d os) (choice (λ l o. d (size l)) os) in
    record { same_answers = r.same_answers; taken_back = λ g x. go g r.taken_back (where_is d g x os) }
  where
    go : (g : ℕ) → ((o : Op) (rest : Log Op) → Without (left d os) o rest → o.done ≡ false → undo o (run s (left d os)) ≡ run s rest)
        → Where os (left d os) g (left (either g d) os) → back (in_groups Alone (eqb g)) os (run s (left d os)) ≡ run s (left (either g d) os)
    go g u (here o w new f) = f (run s (left d os)) ∙ u o (left (either g d) os) w new
    go g u (nowhere f e) = f (run s (left d os)) ∙ ap (run s) (sym e)
