-- The rule in an orderly list: there is a holder just where an unfinished operation changed the tile
use Rattle.std.specs.Prelude.{Bool, ◌&&◌, ◌||◌, cond, false, not, true, List, [], ◌++◌, ◌∷◌, ◌↔◌, ◌≡◌, refl, ◌<◌, ℕ, eqb}
use Rattle.std.proofs.Math.Bool.{and-false, or-false, or-true}
use Rattle.std.proofs.Math.Option.{Option, none, some}
use Rattle.std.proofs.Common.{◌∙◌, ap, ap₂, sym, arith, eqb-true, ne_eqb}
use Rattle.std.proofs.lemmas.Bool.{not-true}
use Rattle.lists.specs.Lists.{All}
use Rattle.lists.specs.Truth.{Same, both, both_false, eqb_same, never, or_left, or_right, other, same, same?}
use Rattle.strict.specs.Commutativity.{FirstHolder, Signature, changes, commutes, entry_at, holder, signature_of, holds}
use Rattle.strict.specs.Histories.{marked, unfinished}
use Rattle.strict.proofs.Laws.Members.{member_apply, touch}
use Rattle.strict.proofs.Laws.Undoing.{Orderly, own, pinned, touch_off}
use Rattle.strict.specs.Operations.{Op, Step, apply, clear, effect, inverse, kind, of_sheet, put, recovery, skip, undo}
use Rattle.strict.specs.Strict.{Log, ◌▷◌, back, empty, in_groups, run, size}
use Rattle.strict.specs.Tiles.{member}
use Rattle.strict.specs.declared.Procedure.{Procedure}
use Rattle.strict.specs.declared.Procedure.TheVariants.{Del, Ins, Mem}
use Rattle.strict.specs.declared.Rule.{Rule}
use Rattle.strict.specs.declared.Rule.TheVariants.{Alone, Together}

-- The table: a recovery that changes no tile, or another tile, commutes with all
pub record Row (n : ℕ) : Type 0 where
  pub put_other : commutes n put false ≡ true
  pub clear_other : commutes n clear false ≡ true
  pub skips : (same : Bool) → commutes n skip same ≡ true

pub rows : (p : Procedure) (f : Bool) → Row (kind p f)
unfolding entry_at
rows Ins false = record { put_other = refl; clear_other = refl; skips = λ same. refl }
rows Ins true = record { put_other = refl; clear_other = refl; skips = λ same. refl }
rows Del true = record { put_other = refl; clear_other = refl; skips = λ same. refl }
rows Del false = record { put_other = refl; clear_other = refl; skips = λ same. refl }
rows Mem true = record { put_other = refl; clear_other = refl; skips = λ same. refl }
rows Mem false = record { put_other = refl; clear_other = refl; skips = λ same. refl }

free_of : (p : Procedure) (f : Bool) (r : Step) (here : Bool) → changes r && here ≡ false → commutes (kind p f) r here ≡ true
free_of p f put true c = never c
free_of p f put false c = (rows p f).put_other
free_of p f clear true c = never c
free_of p f clear false c = (rows p f).clear_other
free_of p f skip here c = (rows p f).skips here

-- and one that takes back what the new operation found does not
clear_holds : (p : Procedure) → commutes (kind p true) clear true ≡ false
unfolding entry_at
clear_holds Ins = refl
clear_holds Del = refl
clear_holds Mem = refl

put_holds : (p : Procedure) → commutes (kind p false) put true ≡ false
unfolding entry_at
put_holds Ins = refl
put_holds Del = refl
put_holds Mem = refl

pub clash : (p : Procedure) (f : Bool) (q : Procedure) (g : Bool) → changes (recovery q g) ≡ true → f ≡ not g
    → commutes (kind p f) (recovery q g) true ≡ false
clash p f Ins false c e = rw e (clear_holds p)
clash p f Ins true c e = never (sym c)
clash p f Del true c e = rw e (put_holds p)
clash p f Del false c e = never (sym c)
clash p f Mem g c e = never (sym c)

-- Where no unfinished operation changed the tile, nothing holds
abbrev pub held : Rule → Op → Log Op → Bool
held r o empty = false
held r o (os ▷ u) = held r o os || (not u.done && holds r o u)

not_held : (o : Op) (os : Log Op) → pinned (own Alone o) o.key os ≡ false → held Alone o os ≡ false
not_held o empty q = refl
not_held o (os ▷ u) q =
    both_false (not_held o os (or_left (pinned (own Alone o) o.key os) _ q)) (go u.done (or_right (pinned (own Alone o) o.key os) _ q))
  where
    go : (d : Bool) → not d && (changes (inverse u) && eqb o.key u.key) ≡ false → not d && holds Alone o u ≡ false
    go true e = refl
    go false e = ap not (free_of o.proc o.found (inverse u) (eqb o.key u.key) e)

pub touch_on : (p : Procedure) (f m : Bool) → changes (recovery p f) ≡ true → touch (effect p) true m ≡ not f
touch_on Ins false m c = refl
touch_on Ins true m c = never (sym c)
touch_on Del true m c = refl
touch_on Del false m c = never (sym c)
touch_on Mem f m c = never (sym c)

pub undone_member : (p : Procedure) (f : Bool) (k : ℕ) (t : List ℕ) → changes (recovery p f) ≡ true → member k (apply (recovery p f) k t) ≡ f
undone_member p f k t c = member_apply (recovery p f) k k t ∙ rw (eqb_same k) (go p f c)
  where
    go : (q : Procedure) (g : Bool) → changes (recovery q g) ≡ true → touch (recovery q g) true (member k t) ≡ g
    go Ins false c = refl
    go Ins true c = never (sym c)
    go Del true c = refl
    go Del false c = never (sym c)
    go Mem g c = never (sym c)

-- Places: those beyond a list are not in it
pub back_beyond : (d : ℕ → Bool) (os : Log Op) (t : List ℕ) → ((i : ℕ) → i < size os → d i ≡ false) → back (in_groups Alone d) os t ≡ t
back_beyond d empty t f = refl
back_beyond d (os ▷ o) t f = rw (f (size os) (omega arith)) (go o.done (λ t. back_beyond d os t (λ i h. f i (omega arith))))
  where
    go : (b : Bool) → ((t : List ℕ) → back (in_groups Alone d) os t ≡ t) → back (in_groups Alone d) os (cond (not b && false) (undo o t) t) ≡ t
    go true ih = ih t
    go false ih = ih t

-- The unfinished operation that changed tile k: its place, that the tile is as it left it, and that to undo it is to have the tile as it found it
pub record Pin (s : List ℕ) (k : ℕ) (os : Log Op) : Type 0 where
  pub op : Op
  pub place : ℕ
  pub in_list : place < size os
  pub left : member k (run s os) ≡ not op.found
  pub undo_it : (t : List ℕ) → member k (back (in_groups Alone (eqb place)) os t) ≡ op.found
  pub holds_all : (o : Op) → o.key ≡ k → o.found ≡ not op.found → held Alone o os ≡ true

pub pin : (s : List ℕ) (k : ℕ) (os : Log Op) → Orderly Alone s os → pinned (λ u. false) k os ≡ true → Pin s k os
pin s k empty h q = never (sym q)
pin s k (os ▷ o) h q = go (not o.done && (changes (inverse o) && eqb k o.key)) refl (pin s k os h.0)
  where
    go : (b : Bool) → not o.done && (changes (inverse o) && eqb k o.key) ≡ b → (pinned (λ u. false) k os ≡ true → Pin s k os) → Pin s k (os ▷ o)
    go true e ih =
        let d = not-true o.done (both (not o.done) (changes (inverse o) && eqb k o.key) e).0 in
        let e₁ = (both (not o.done) (changes (inverse o) && eqb k o.key) e).1 in
        let c = (both (changes (inverse o)) (eqb k o.key) e₁).0 in
        let r = (both (changes (inverse o)) (eqb k o.key) e₁).1 in
        let n = size os in
        record {
          op = o;
          place = n;
          in_list = omega arith;
          left = member_apply (effect o.proc) k o.key (run s os) ∙ rw r (touch_on o.proc o.found (member k (run s os)) c);
          undo_it = λ t.
              let here : not o.done && eqb n n ≡ true = rw (d, eqb_same n) in
              ap (λ b. member k (back (in_groups Alone (eqb n)) os (cond b (undo o t) t))) here
              ∙ ap (member k) (back_beyond (eqb n) os (undo o t) (λ i l. ne_eqb n i (omega arith)))
              ∙ ap (λ x. member k (apply (inverse o) x t)) (sym (eqb-true k o.key r))
              ∙ undone_member o.proc o.found k t c;
          holds_all = λ u x f.
              let here : eqb u.key o.key ≡ true = ap (λ y. eqb y o.key) x ∙ r in
              let one : not o.done && holds Alone u o ≡ true =
              ap₂ (λ a b. not a && not (commutes (kind u.proc u.found) (inverse o) b)) d here
              ∙ ap not (clash u.proc u.found o.proc o.found c f) in
              ap (λ b. held Alone u os || b) one ∙ or-true (held Alone u os);
        }
    go false e ih =
        let q₁ : pinned (λ u. false) k os ≡ true = sym (or-false (pinned (λ u. false) k os)) ∙ ap (λ b. pinned (λ u. false) k os || b) (sym e) ∙ q in
        let p = ih q₁ in
        let in-os = p.in_list in
        record {
          op = p.op;
          place = p.place;
          in_list = omega arith;
          left = member_apply (effect o.proc) k o.key (run s os)
              ∙ ap (λ b. touch (effect o.proc) b (member k (run s os))) (differs q₁ (same? k o.key))
              ∙ touch_off (effect o.proc) (member k (run s os)) ∙ p.left;
          undo_it = λ t.
              let not_here : not o.done && eqb p.place (size os) ≡ false = ap (λ b. not o.done && b) (ne_eqb p.place (size os) (omega arith))
              ∙ and-false (not o.done) in
              ap (λ b. member k (back (in_groups Alone (eqb p.place)) os (cond b (undo o t) t))) not_here ∙ p.undo_it t;
          holds_all = λ u x f. ap (λ b. b || (not o.done && holds Alone u o)) (p.holds_all u x f);
        }
      where
        differs : pinned (λ u. false) k os ≡ true → Same k o.key → eqb k o.key ≡ false
        differs q₁ (same p r) = never (sym q₁ ∙ ap (λ x. pinned (λ u. false) x os) p ∙ h.2)
        differs q₁ (other p r) = r

-- whatever sheet an operation is for, who holds it is the same
pub sheet_apart : (r : Rule) (sheet : ℕ) (o : Op) (us : List Op) → holder r (of_sheet sheet o) us ≡ holder r o us
sheet_apart r sheet o [] = refl
sheet_apart Alone sheet o (u ∷ us) = ap (cond (holds Alone o u) (some (signature_of u))) (sheet_apart Alone sheet o us)
sheet_apart Together sheet o (u ∷ us) = ap (cond (holds Together o u) (some (signature_of u))) (sheet_apart Together sheet o us)

-- The table's first holder: there is one where an unfinished operation holds
abbrev pub found_one : {A : Type 0} → Option A → Bool
found_one none = false
found_one (some j) = true

holder_last : (r : Rule) (o : Op) (us : List Op) (u : Op) → found_one (holder r o (us ++ (u ∷ []))) ≡ found_one (holder r o us) || holds r o u
holder_last r o [] u = go (holds r o u)
  where
    go : (b : Bool) → found_one (cond b (some (signature_of u)) none) ≡ b
    go true = refl
    go false = refl
holder_last r o (x ∷ us) u = go (holds r o x) (holder_last r o us u)
  where
    go : (b : Bool) → found_one (holder r o (us ++ (u ∷ []))) ≡ found_one (holder r o us) || holds r o u
        → found_one (cond b (some (signature_of x)) (holder r o (us ++ (u ∷ [])))) ≡ found_one (cond b (some (signature_of x)) (holder r o us)) || holds r o u
    go true ih = refl
    go false ih = ih

holds_marked : (r : Rule) (o u : Op) (d : Bool) → holds r o (marked u d) ≡ holds r o u
holds_marked Alone o u d = refl
holds_marked Together o u d = refl

holder_held : (r : Rule) (o : Op) (os : Log Op) → found_one (holder r o (unfinished os)) ≡ held r o os
holder_held r o empty = refl
holder_held r o (os ▷ u) = go u.done (holder_held r o os)
  where
    go : (d : Bool) → found_one (holder r o (unfinished os)) ≡ held r o os
        → found_one (holder r o (unfinished (os ▷ marked u d))) ≡ held r o os || (not d && holds r o u)
    go true ih = ih ∙ sym (or-false (held r o os))
    go false ih = holder_last r o (unfinished os) (marked u false) ∙ ap₂ (λ b c. b || c) ih (holds_marked r o u false)

-- The rule, in a sound list: there is a holder where the tile is pinned
held_pinned : (r : Rule) (s : List ℕ) (o : Op) (os : Log Op) → Orderly r s os → o.found ≡ member o.key (run s os) → o.done ≡ false
    → held r o os ≡ pinned (own r o) o.key os
held_pinned Alone s o os h f new = go (pinned (λ u. false) o.key os) refl
  where
    go : (b : Bool) → pinned (λ u. false) o.key os ≡ b → held Alone o os ≡ b
    go true e = let p = pin s o.key os h e in p.holds_all o refl (f ∙ p.left)
    go false e = not_held o os e
held_pinned Together s o os h f new = go os
  where
    go : (l : Log Op) → held Together o l ≡ pinned (own Together o) o.key l
    go empty = refl
    go (l ▷ u) =
        ap₂ (λ x y. x || (not u.done && (not y && (changes (inverse u) && eqb o.key u.key)))) (go l)
        (ap (λ b. not b && eqb u.job o.job) (sym new))

pub holder_pinned : (r : Rule) (s : List ℕ) (o : Op) (os : Log Op) → Orderly r s os → o.found ≡ member o.key (run s os) → o.done ≡ false
    → found_one (holder r o (unfinished os)) ≡ pinned (own r o) o.key os
holder_pinned r s o os h f new = holder_held r o os ∙ held_pinned r s o os h f new

-- the first holder
some_same : {a b : Signature} → some a ≡ some b → a ≡ b
some_same {a} e = ap (λ (o : Option Signature). elim o [ none ↦ a | some c ↦ c ]) e

names_first : (r : Rule) (o : Op) (us : List Op) (by : Signature) → holder r o us ≡ some by → FirstHolder r o us by
names_first r o [] by e = never (sym (ap found_one e))
names_first r o (u ∷ us) by e = go (holds r o u) refl e (names_first r o us by)
  where
    go : (b : Bool) → holds r o u ≡ b → cond b (some (signature_of u)) (holder r o us) ≡ some by → (holder r o us ≡ some by → FirstHolder r o us by)
        → FirstHolder r o (u ∷ us) by
    go true q e ih = record { earlier = []; entry = u; later = us; placed_so = refl; none_earlier = tt; holds_it = q; by_it = some_same e }
    go false q e ih =
        let i = ih e in
        record {
          earlier = u ∷ i.earlier;
          entry = i.entry;
          later = i.later;
          placed_so = ap {B = List Op} (λ l. u ∷ l) i.placed_so;
          none_earlier = (q, i.none_earlier);
          holds_it = i.holds_it;
          by_it = i.by_it;
        }

first_named : (r : Rule) (o : Op) (xs : List Op) (u : Op) (ys : List Op) → All (λ v. holds r o v ≡ false) xs → holds r o u ≡ true
    → holder r o (xs ++ (u ∷ ys)) ≡ some (signature_of u)
first_named r o [] u ys n e = rw e
first_named r o (x ∷ xs) u ys n e = rw n.0 (first_named r o xs u ys n.1 e)

pub holder_first : (r : Rule) (o : Op) (us : List Op) (by : Signature) → (holder r o us ≡ some by) ↔ FirstHolder r o us by
holder_first r o us by = (
  names_first r o us by,
  λ f. ap (holder r o) f.placed_so ∙ first_named r o f.earlier f.entry f.later f.none_earlier f.holds_it
      ∙ ap {B = Option Signature} some f.by_it,
)
