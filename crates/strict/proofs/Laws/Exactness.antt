-- Held is exact: a held operation, if taken, breaks strictness where each operation fails alone
use Rattle.std.specs.Prelude.{Bool, ◌&&◌, ◌||◌, cond, false, not, true, List, ◌↔◌, ◌≡◌, refl, ◌<◌, ℕ, eqb}
use Rattle.std.proofs.Math.Bool.{and-false}
use Rattle.std.proofs.Math.Option.{Option, none, some}
use Rattle.std.proofs.Common.{◌∙◌, ap, ap₂, subst, sym, arith, ne_eqb}
use Rattle.lists.specs.Truth.{eqb_same, never}
use Rattle.strict.specs.Book.{Admitted, book_after, held_by}
use Rattle.strict.specs.Commutativity.{Signature, changes, holder}
use Rattle.strict.specs.Histories.{Event, kept, opened, operation, unfinished}
use Rattle.strict.proofs.Laws.Following.{follows, follows_strict, same_book}
use Rattle.strict.proofs.Laws.Holding.{Pin, back_beyond, found_one, holder_pinned, pin, sheet_apart, undone_member}
use Rattle.strict.proofs.Laws.Members.{member_apply, touch}
use Rattle.strict.proofs.Laws.Undoing.{Orderly, groups_apart, orderly_back}
use Rattle.strict.specs.Operations.{Op, after, answer, begun, effect, inverse, of_sheet, recovery, undo}
use Rattle.strict.specs.Strict.{Log, SameAnswers, Strict, ◌▷◌, back, empty, in_groups, run, size, without}
use Rattle.strict.specs.Tiles.{Ascending, member}
use Rattle.strict.specs.declared.Procedure.{Procedure}
use Rattle.strict.specs.declared.Procedure.TheVariants.{Del, Ins, Mem}
use Rattle.strict.specs.declared.Rule.TheVariants.{Alone}

differ : (b : Bool) → b ≡ not b → ⊥
differ true e = never e
differ false e = never (sym e)

-- places in a list, and those beyond it
pub without_beyond : (d e : ℕ → Bool) (os : Log Op) → ((i : ℕ) → i < size os → d i ≡ e i)
    → without (in_groups Alone d) os ≡ without (in_groups Alone e) os
without_beyond d e empty f = refl
without_beyond d e (os ▷ o) f =
    ap₂ (λ b l. cond (not o.done && b) l (l ▷ o)) (f (size os) (omega arith)) (without_beyond d e os (λ i h. f i (omega arith)))

module _ (os : Log Op) (o : Op) (d : ℕ → Bool) where
  pub last_stays : d (size os) ≡ false → without (in_groups Alone d) (os ▷ o) ≡ without (in_groups Alone d) os ▷ o
  last_stays e = ap (λ b. cond b (without (in_groups Alone d) os) (without (in_groups Alone d) os ▷ o)) (ap (λ b. not o.done && b) e ∙ and-false (not o.done))

  pub last_goes : o.done ≡ false → d (size os) ≡ true → without (in_groups Alone d) (os ▷ o) ≡ without (in_groups Alone d) os
  last_goes new e = ap₂ (λ a b. cond (not a && b) (without (in_groups Alone d) os) (without (in_groups Alone d) os ▷ o)) new e

  pub back_past : (t : List ℕ) → d (size os) ≡ false → back (in_groups Alone d) (os ▷ o) t ≡ back (in_groups Alone d) os t
  back_past t e = ap (λ b. back (in_groups Alone d) os (cond b (undo o t) t)) (ap (λ b. not o.done && b) e ∙ and-false (not o.done))

  pub back_last : (t : List ℕ) → o.done ≡ false → d (size os) ≡ true → ((i : ℕ) → i < size os → d i ≡ false)
      → back (in_groups Alone d) (os ▷ o) t ≡ undo o t
  back_last t new e f = ap₂ (λ a b. back (in_groups Alone d) os (cond (not a && b) (undo o t) t)) new e ∙ back_beyond d os (undo o t) f

module _ (s : List ℕ) (os : Log Op) (o : Op) (asc : Ascending s) (sound : Orderly Alone s os) (pin : Pin s o.key os) (new : o.done ≡ false) where
  abbrev at : ℕ → Bool
  at = eqb pin.place

  abbrev rest : Log Op
  rest = without (in_groups Alone at) os

  not_last : at (size os) ≡ false
  not_last = let l = pin.in_list in ne_eqb pin.place (size os) (omega arith)

  at_rest : member o.key (run s rest) ≡ pin.op.found
  at_rest = ap (member o.key) (sym (orderly_back Alone s (in_groups Alone at) asc (groups_apart Alone at) os sound)) ∙ pin.undo_it (run s os)

  -- without the pin the new operation's recovery undoes too much
  by_recovery : changes (inverse o) ≡ true → Strict Alone s (os ▷ o) → o.found ≡ pin.op.found
  by_recovery c strict =
      let n = size os in
      sym (undone_member o.proc o.found o.key (after o (run s rest)) c)
      ∙ ap (member o.key) (sym (back_last os o (eqb n) (after o (run s rest)) new (eqb_same n) (λ i l. ne_eqb n i (omega arith)))
      ∙ ap (λ l. back (in_groups Alone (eqb n)) (os ▷ o) (run s l)) (sym (last_stays os o at not_last))
      ∙ (strict at).taken_back n not_last
      ∙ ap (run s) (last_goes os o (λ i. eqb n i || at i) new (ap (λ b. b || at n) (eqb_same n))
      ∙ without_beyond (λ i. eqb n i || at i) at os (λ i l. ap (λ b. b || at i) (ne_eqb n i (omega arith)))))
      ∙ at_rest

  -- the pin's recovery undoes what the new operation did
  by_pin : ((b : Bool) → touch (effect o.proc) true b ≡ o.found) → Strict Alone s (os ▷ o) → o.found ≡ pin.op.found
  by_pin c strict =
      let e : ℕ → Bool = λ i. at i || false in
      let l = without (in_groups Alone e) os in
      sym (member_apply (effect o.proc) o.key o.key (run s l) ∙ rw (eqb_same o.key) (c (member o.key (run s l))))
      ∙ ap (member o.key) (ap (run s) (sym (last_stays os o e (ap (λ b. b || false) not_last)))
      ∙ sym ((strict (λ i. false)).taken_back pin.place refl)
      ∙ back_past os o at _ not_last)
      ∙ pin.undo_it _

  -- without the pin the new operation's answer differs
  by_answer : ((b : Bool) → answer o.proc b ≡ b) → Strict Alone s (os ▷ o) → o.found ≡ pin.op.found
  by_answer c strict =
      sym (c o.found)
      ∙ sym (subst (SameAnswers s) (last_stays os o at not_last) (strict at).same_answers).1
      ∙ c (member o.key (run s rest))
      ∙ at_rest

  broken : Strict Alone s (os ▷ o) → o.found ≡ pin.op.found
  broken strict = go o.proc o.found refl refl
    where
      go : (p : Procedure) (f : Bool) → o.proc ≡ p → o.found ≡ f → o.found ≡ pin.op.found
      go Ins false e d = by_recovery (ap₂ (λ q g. changes (recovery q g)) e d) strict
      go Ins true e d = by_pin (λ b. rw (e, d)) strict
      go Del true e d = by_recovery (ap₂ (λ q g. changes (recovery q g)) e d) strict
      go Del false e d = by_pin (λ b. rw (e, d)) strict
      go Mem f e d = by_answer (λ b. rw e) strict

held_not_strict : (s : List ℕ) (os : Log Op) (o : Op) → Ascending s → Orderly Alone s os → o.found ≡ member o.key (run s os)
    → o.done ≡ false → found_one (holder Alone o (unfinished os)) ≡ true → Strict Alone s (os ▷ o) → ⊥
held_not_strict s os o asc h f new q strict =
    let p = pin s o.key os h (sym (holder_pinned Alone s o os h f new) ∙ q) in
    differ p.op.found (sym (broken s os o asc h p new strict) ∙ f ∙ p.left)

-- an operation is not held just where the history with it is strict
pub held_exactly : (s : List ℕ) (h : Log Event) (j sheet : ℕ) (p : Procedure) (k : ℕ) → Ascending s → Admitted Alone s h → opened j h ≡ true
    → (held_by Alone (book_after s h) j p k ≡ none) ↔ Strict Alone s (kept s (h ▷ operation j sheet p k))
held_exactly s h j sheet p k asc a j-open =
    (λ q. follows_strict Alone s (h ▷ operation j sheet p k) asc (a, j-open, q), λ strict. go strict (held_by Alone (book_after s h) j p k) refl)
  where
    go : Strict Alone s (kept s (h ▷ operation j sheet p k)) → (o : Option Signature) → held_by Alone (book_after s h) j p k ≡ o → o ≡ none
    go strict none q = refl
    go strict (some i) q =
        let f = follows Alone s h asc a in
        absurd
        (held_not_strict s (kept s h) (of_sheet sheet (begun j p k (run s (kept s h)))) asc f.orderly refl refl
        (ap found_one (sheet_apart Alone sheet (begun j p k (run s (kept s h))) (unfinished (kept s h)) ∙ subst (λ m. held_by Alone m j p k ≡ some i) (same_book f) q)) strict)
