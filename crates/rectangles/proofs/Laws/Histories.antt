-- The operations of a list, added to a history: the list is not held just where the history with all of them is strict
use Rattle.std.specs.Prelude.{Bool, ◌||◌, cond, false, true, List, [], ◌∷◌, ◌↔◌, ◌≡◌, refl, ◌+◌, ◌<◌, ℕ, eqb, ltb}
use Rattle.std.proofs.Math.Bool.{or-true}
use Rattle.std.proofs.Math.Option.{none}
use Rattle.std.proofs.Common.{◌∙◌, ap, subst, sym, arith, le-ltb, lt-ltb, ltb-false, ltb-true, ne_eqb}
use Rattle.lists.specs.Lists.{All}
use Rattle.strict.specs.Book.{Admitted, book_after, held_by, places_taken}
use Rattle.strict.specs.Histories.{Event, kept, opened, operation}
use Rattle.strict.proofs.Laws.Exactness.{back_past, last_goes, without_beyond}
use Rattle.strict.proofs.Laws.Following.{follows_strict}
use Rattle.strict.proofs.Laws.Holding.{back_beyond}
use Rattle.strict.proofs.Laws.Members.{ascending_apply}
use Rattle.strict.proofs.Laws.Room.{room_operation}
use Rattle.strict.specs.Operations.{Op, begun, effect, of_sheet}
use Rattle.strict.specs.Strict.{Log, SameAnswers, Strict, ◌▷◌, back, in_groups, run, size, without}
use Rattle.strict.proofs.Theorems.{held_is_exact}
use Rattle.strict.specs.Tiles.{Ascending}
use Rattle.strict.specs.declared.Procedure.{Procedure}
use Rattle.strict.specs.declared.Rule.TheVariants.{Alone}
use Rattle.rectangles.specs.Claims.{Apart}
use Rattle.rectangles.proofs.Laws.Apart.{free_before, free_then, needed_same}
use Rattle.rectangles.specs.Rectangles.{needed}

-- h, and then the operations of a list of keys
abbrev pub with_all : Log Event → ℕ → ℕ → Procedure → List ℕ → Log Event
with_all h job sheet p [] = h
with_all h job sheet p (k ∷ ks) = with_all (h ▷ operation job sheet p k) job sheet p ks

-- what stands before an unfinished operation is strict where all is: drop that one, whatever else is dropped
module _ (s : List ℕ) (os : Log Op) (o : Op) (new : o.done ≡ false) (strict : Strict Alone s (os ▷ o)) where
  module _ (d : ℕ → Bool) where
    abbrev wider : ℕ → Bool
    wider i = cond (ltb i (size os)) (d i) true

    goes : wider (size os) ≡ true
    goes = ap (λ b. cond b (d (size os)) true) (le-ltb (size os) (size os) (omega arith))

    below : (i : ℕ) → i < size os → wider i ≡ d i
    below i l = ap (λ b. cond b (d i) true) (lt-ltb i (size os) l)

    rest_is : without (in_groups Alone wider) (os ▷ o) ≡ without (in_groups Alone d) os
    rest_is = last_goes os o wider new goes ∙ without_beyond wider d os below

    abbrev also : ℕ → ℕ → Bool
    also g i = eqb g i || wider i

    also_is : (g : ℕ) → without (in_groups Alone (also g)) (os ▷ o) ≡ without (in_groups Alone (λ i. eqb g i || d i)) os
    also_is g =
        last_goes os o (also g) new (ap (λ b. eqb g (size os) || b) goes ∙ or-true (eqb g (size os)))
        ∙ without_beyond (also g) (λ i. eqb g i || d i) os (λ i l. ap (λ b. eqb g i || b) (below i l))

    undone_before : (g : ℕ) → d g ≡ false → (b : Bool) → ltb g (size os) ≡ b
        → back (in_groups Alone (eqb g)) os (run s (without (in_groups Alone d) os)) ≡ run s (without (in_groups Alone (λ i. eqb g i || d i)) os)
    undone_before g e true q =
        let l = ltb-true g (size os) q in
        sym (back_past os o (eqb g) (run s (without (in_groups Alone d) os)) (ne_eqb g (size os) (omega arith)))
        ∙ ap (λ l. back (in_groups Alone (eqb g)) (os ▷ o) (run s l)) (sym rest_is)
        ∙ (strict wider).taken_back g (below g l ∙ e)
        ∙ ap (run s) (also_is g)
    undone_before g e false q =
        let l = ltb-false g (size os) q in
        back_beyond (eqb g) os (run s (without (in_groups Alone d) os)) (λ i u. ne_eqb g i (omega arith))
        ∙ ap (run s) (without_beyond d (λ i. eqb g i || d i) os (λ i u. sym (ap (λ b. b || d i) (ne_eqb g i (omega arith)))))

  pub strict_before : Strict Alone s os
  strict_before d =
      record {
        same_answers = subst (SameAnswers s) (rest_is d) (strict (wider d)).same_answers;
        taken_back = λ g e. undone_before d g e (ltb g (size os)) refl;
      }

module _ (s : List ℕ) (job sheet : ℕ) (p : Procedure) where
  strict_first : (h : Log Event) (ks : List ℕ) → Strict Alone s (kept s (with_all h job sheet p ks)) → Strict Alone s (kept s h)
  strict_first h [] strict = strict
  strict_first h (k ∷ ks) strict = strict_before s (kept s h) (of_sheet sheet (begun job p k (run s (kept s h)))) refl (strict_first (h ▷ operation job sheet p k) ks strict)

  module _ (asc : Ascending s) where
    -- none is held: then all are admitted one after another
    pub all_admitted : (h : Log Event) (ks : List ℕ) → Admitted Alone s h → opened job h ≡ true → Apart ks
        → All (λ k. held_by Alone (book_after s h) job p k ≡ none) ks → Admitted Alone s (with_all h job sheet p ks)
    all_admitted h [] a o apart free = a
    all_admitted h (k ∷ ks) a o apart free =
        all_admitted (h ▷ operation job sheet p k) ks (a, o, free.0) o apart.1 (free_then Alone (book_after s h) job sheet p k ks apart.0 free.1)

    all_unheld : (h : Log Event) (ks : List ℕ) → Admitted Alone s h → opened job h ≡ true → Apart ks
        → Strict Alone s (kept s (with_all h job sheet p ks)) → All (λ k. held_by Alone (book_after s h) job p k ≡ none) ks
    all_unheld h [] a o apart strict = tt
    all_unheld h (k ∷ ks) a o apart strict =
        let free = (held_is_exact s h asc a job sheet p k o).1 (strict_first (h ▷ operation job sheet p k) ks strict) in
        (free, free_before Alone (book_after s h) job sheet p k ks apart.0 (all_unheld (h ▷ operation job sheet p k) ks (a, o, free) o apart.1 strict))

    -- and then so many more places are taken
    pub taken_all : (h : Log Event) (ks : List ℕ) → Apart ks → Ascending (book_after s h).tiles
        → places_taken Alone (book_after s (with_all h job sheet p ks)) ≡ places_taken Alone (book_after s h) + needed Alone (book_after s h) job p ks
    taken_all h [] apart up = omega arith
    taken_all h (k ∷ ks) apart up =
        let ih = taken_all (h ▷ operation job sheet p k) ks apart.1 (ascending_apply (effect p) k (book_after s h).tiles up) in
        let grown = room_operation Alone (book_after s h) job sheet p k up in
        let same = needed_same Alone (book_after s h) job sheet p k ks apart.0 in
        omega arith

    pub free_strict : (h : Log Event) (ks : List ℕ) → Admitted Alone s h → opened job h ≡ true → Apart ks
        → All (λ k. held_by Alone (book_after s h) job p k ≡ none) ks ↔ Strict Alone s (kept s (with_all h job sheet p ks))
    free_strict h ks a o apart = (λ free. follows_strict Alone s (with_all h job sheet p ks) asc (all_admitted h ks a o apart free), all_unheld h ks a o apart)
