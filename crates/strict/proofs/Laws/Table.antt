-- The six by five table is commutativity as TR-92-43 defines it
use Rattle.std.specs.Prelude.{Bool, ◌&&◌, false, true, List, [], ◌∷◌, ◌↔◌, ◌≡◌, refl, ℕ, eqb}
use Rattle.std.specs.Bool.{beq}
use Rattle.std.proofs.Common.{◌∙◌, ap, ap₂, sym, eqb-true}
use Rattle.lists.specs.Truth.{Same, bool_same, both, eqb_same, never, other, same, same_bool, same?}
use Rattle.strict.specs.Commutativity.{Commutes, Legal, commutes, entry_at}
use Rattle.strict.proofs.Laws.Holding.{rows}
use Rattle.strict.proofs.Laws.Members.{ascending_apply, member_apply, same_members, touch}
use Rattle.strict.proofs.Laws.Undoing.{apply_comm, touch_off, undo_after}
use Rattle.strict.specs.Operations.{Step, answer, apply, clear, effect, kind, put, recovery, skip}
use Rattle.strict.specs.Tiles.{Ascending, member}
use Rattle.strict.specs.declared.Procedure.{Procedure}
use Rattle.strict.specs.declared.Procedure.TheVariants.{Del, Ins, Mem}

-- A test of every procedure, finding and recovery
abbrev steps : (Step → Bool) → Bool
steps g = g put && (g clear && g skip)

abbrev bools : (Bool → Bool) → Bool
bools g = g true && g false

abbrev procedures : (Procedure → Bool) → Bool
procedures g = g Ins && (g Del && g Mem)

at_step : (g : Step → Bool) → steps g ≡ true → (r : Step) → g r ≡ true
at_step g e put = (both (g put) _ e).0
at_step g e clear = (both (g clear) _ (both (g put) _ e).1).0
at_step g e skip = (both (g clear) _ (both (g put) _ e).1).1

at_bool : (g : Bool → Bool) → bools g ≡ true → (b : Bool) → g b ≡ true
at_bool g e true = (both (g true) _ e).0
at_bool g e false = (both (g true) _ e).1

at_procedure : (g : Procedure → Bool) → procedures g ≡ true → (p : Procedure) → g p ≡ true
at_procedure g e Ins = (both (g Ins) _ e).0
at_procedure g e Del = (both (g Del) _ (both (g Ins) _ e).1).0
at_procedure g e Mem = (both (g Del) _ (both (g Ins) _ e).1).1

-- on one tile: the recovery leaves what the operation finds, and the two may change places
abbrev unmoved : Bool → Step → Bool
unmoved f r = beq (touch r true f) f

abbrev swaps : Procedure → Bool → Step → Bool
swaps p f r = beq (touch r true (touch (effect p) true f)) (touch (effect p) true (touch r true f))

-- the thirty entries: those of the same tile by one computed test, the others by `rows` of Held.antt
table_rule : (p : Procedure) (f : Bool) (r : Step) → commutes (kind p f) r true ≡ unmoved f r && swaps p f r
unfolding entry_at
table_rule p f r = same_bool _ _ (at_step (test p f) (at_bool (λ g. steps (test p g)) (at_procedure (λ q. bools (λ g. steps (test q g))) refl p) f) r)
  where
    test : Procedure → Bool → Step → Bool
    test q g x = beq (commutes (kind q g) x true) (unmoved g x && swaps q g x)

other_tile : (p : Procedure) (f : Bool) (r : Step) → commutes (kind p f) r false ≡ true
other_tile p f put = (rows p f).put_other
other_tile p f clear = (rows p f).clear_other
other_tile p f skip = (rows p f).skips false

-- A legal pair is one that finds what its kind says
legal_found : (p : Procedure) (f : Bool) (k : ℕ) (t : List ℕ) → Legal p f k t → f ≡ member k t
legal_found p f k t l = go p f l.answers (sym both ∙ ap (member k) l.restores)
  where
    both : member k (apply (recovery p f) k (apply (effect p) k t)) ≡ touch (recovery p f) true (touch (effect p) true (member k t))
    both =
        member_apply (recovery p f) k k (apply (effect p) k t)
        ∙ ap (touch (recovery p f) (eqb k k)) (member_apply (effect p) k k t)
        ∙ ap (λ b. touch (recovery p f) b (touch (effect p) b (member k t))) (eqb_same k)

    go : (q : Procedure) (g : Bool) → answer q (member k t) ≡ answer q g → touch (recovery q g) true (touch (effect q) true (member k t)) ≡ member k t
        → g ≡ member k t
    go Ins false a e = e
    go Ins true a e = e
    go Del true a e = e
    go Del false a e = e
    go Mem g a e = sym a

found_legal : (p : Procedure) (f : Bool) (k : ℕ) (t : List ℕ) → Ascending t → f ≡ member k t → Legal p f k t
found_legal p f k t asc m =
    record {
      ascending = asc;
      answers = ap (answer p) (sym m);
      restores = undo_after (record { job = 0; proc = p; key = k; found = f; done = false; sheet = 0 }) t asc m;
    }

abbrev legal_at : Bool → ℕ → List ℕ
legal_at true k = k ∷ []
legal_at false k = []

legal_somewhere : (p : Procedure) (f : Bool) (k : ℕ) → Legal p f k (legal_at f k)
legal_somewhere p f k = go f refl
  where
    go : (b : Bool) → f ≡ b → Legal p f k (legal_at b k)
    go true e = found_legal p f k (k ∷ []) tt (e ∙ rw (eqb_same k))
    go false e = found_legal p f k [] tt e

-- on the same tile
swap_bits : (p : Procedure) (f : Bool) (r : Step) (b m : Bool) → (b ≡ true → f ≡ m) → swaps p f r ≡ true
    → touch r b (touch (effect p) b m) ≡ touch (effect p) b (touch r b m)
swap_bits p f r true m g e = rw (← g refl) (same_bool _ _ e)
swap_bits p f r false m g e = touch_off r (touch (effect p) false m) ∙ ap (touch (effect p) false) (sym (touch_off r m))

swap_own : (p : Procedure) (f : Bool) (r : Step) (k : ℕ) (t : List ℕ) → Ascending t → f ≡ member k t → swaps p f r ≡ true
    → apply r k (apply (effect p) k t) ≡ apply (effect p) k (apply r k t)
swap_own p f r k t asc m e =
    same_members _ _ (ascending_apply r k _ (ascending_apply (effect p) k t asc)) (ascending_apply (effect p) k _ (ascending_apply r k t asc))
    (λ x.
    (member_apply r x k (apply (effect p) k t) ∙ ap (touch r (eqb x k)) (member_apply (effect p) x k t))
    ∙ swap_bits p f r (eqb x k) (member x t) (λ q. m ∙ ap (λ y. member y t) (sym (eqb-true x k q))) e
    ∙ sym (member_apply (effect p) x k (apply r k t) ∙ ap (touch (effect p) (eqb x k)) (member_apply r x k t)))

yes_commutes : (p : Procedure) (f : Bool) (k : ℕ) (r : Step) (i : ℕ) → commutes (kind p f) r (eqb k i) ≡ true → Commutes p f k r i
yes_commutes p f k r i e =
    record {
      somewhere = legal_at f k;
      legal_there = legal_somewhere p f k;
      stays_legal = λ t l. found_legal p f k (apply r i t) (ascending_apply r i t l.ascending) (still t (legal_found p f k t l) (same? k i));
      either_order = λ t l. swap t l.ascending (legal_found p f k t l) (same? k i);
    }
  where
    rule : eqb k i ≡ true → unmoved f r && swaps p f r ≡ true
    rule q = sym (table_rule p f r) ∙ ap (commutes (kind p f) r) (sym q) ∙ e

    still : (t : List ℕ) → f ≡ member k t → Same k i → f ≡ member k (apply r i t)
    still t m (same x q) =
        sym (same_bool _ _ (both (unmoved f r) (swaps p f r) (rule q)).0) ∙ ap (touch r true) m ∙ ap (λ b. touch r b (member k t)) (sym q)
        ∙ sym (member_apply r k i t)
    still t m (other x q) = m ∙ sym (member_apply r k i t ∙ ap (λ b. touch r b (member k t)) q ∙ touch_off r (member k t))

    swap : (t : List ℕ) → Ascending t → f ≡ member k t → Same k i → apply r i (apply (effect p) k t) ≡ apply (effect p) k (apply r i t)
    swap t asc m (same x q) = rw (← x) (swap_own p f r k t asc m (both (unmoved f r) (swaps p f r) (rule q)).1)
    swap t asc m (other x q) = apply_comm r (effect p) i k t asc (λ y. x (sym y))

no_commutes : (p : Procedure) (f : Bool) (k : ℕ) (r : Step) (i : ℕ) → commutes (kind p f) r (eqb k i) ≡ false → Commutes p f k r i → ⊥
no_commutes p f k r i e c = go (same? k i)
  where
    t : List ℕ
    t = c.somewhere

    m : f ≡ member k t
    m = legal_found p f k t c.legal_there

    stays : f ≡ member k (apply r i t)
    stays = legal_found p f k (apply r i t) (c.stays_legal t c.legal_there)

    kept_bit : eqb k i ≡ true → touch r true f ≡ f
    kept_bit q = ap (touch r true) m ∙ sym (stays ∙ member_apply r k i t ∙ ap (λ b. touch r b (member k t)) q)

    order : eqb k i ≡ true → touch r true (touch (effect p) true f) ≡ touch (effect p) true (touch r true f)
    order q =
        ap (λ b. touch r true (touch (effect p) true b)) m
        ∙ sym (member_apply r k i (apply (effect p) k t) ∙ ap₂ (touch r) q (member_apply (effect p) k k t ∙ ap (λ b. touch (effect p) b (member k t)) (eqb_same k)))
        ∙ ap (member k) (c.either_order t c.legal_there)
        ∙ (member_apply (effect p) k k (apply r i t) ∙ ap₂ (touch (effect p)) (eqb_same k) (member_apply r k i t ∙ ap (λ b. touch r b (member k t)) q))
        ∙ ap (λ b. touch (effect p) true (touch r true b)) (sym m)

    go : Same k i → ⊥
    go (same x q) = never (sym (table_rule p f r ∙ ap₂ ◌&&◌ (bool_same (kept_bit q)) (bool_same (order q))) ∙ ap (commutes (kind p f) r) (sym q) ∙ e)
    go (other x q) = never (sym (other_tile p f r) ∙ ap (commutes (kind p f) r) (sym q) ∙ e)

pub definition_2 : (p : Procedure) (f : Bool) (k : ℕ) (r : Step) (i : ℕ) → (commutes (kind p f) r (eqb k i) ≡ true) ↔ Commutes p f k r i
definition_2 p f k r i = (yes_commutes p f k r i, λ c. decide (commutes (kind p f) r (eqb k i)) (λ e. no_commutes p f k r i e c))
  where
    decide : (b : Bool) → (b ≡ false → ⊥) → b ≡ true
    decide true g = refl
    decide false g = absurd (g refl)
