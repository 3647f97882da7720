-- Ends of two jobs on a table that is sound: either may come first
use Rattle.std.specs.Prelude.{Bool, cond, false, not, true, List, [], ◌∷◌, ◌≢◌, ◌≡◌, refl, suc, zero, ℕ, eqb, set}
use Rattle.std.proofs.Common.{◌∙◌, ap, sym, eqb-true}
use Rattle.lists.specs.Truth.{both}
use Rattle.strict.specs.Book.{others, recover}
use Rattle.strict.specs.Commutativity.{changes}
use Rattle.strict.specs.Histories.{mine}
use Rattle.strict.proofs.Laws.Ending.{recover_ascending}
use Rattle.strict.proofs.Laws.Undoing.{apply_comm}
use Rattle.strict.specs.Operations.{Op, Step, apply, clear, inverse, put, skip, undo}
use Rattle.strict.specs.Sound.{FreeAfter, MayFollow, SoundTable}
use Rattle.strict.specs.Tiles.{Ascending}
use Rattle.strict.specs.declared.Rule.{Rule}
use Rattle.strict.specs.declared.Rule.TheVariants.{Alone, Together}
use Rattle.service.specs.Admission.{State, perform}
use Rattle.service.specs.History.{event}
use Rattle.ends.specs.Ends.{EitherFirst, End, cancels, careful, ended_by, ending, keeps, whose}

-- what may follow u and is of another job is on another tile
other_tile : (r : Rule) (u v : Op) → MayFollow r u v → u.job ≢ v.job → u.key ≢ v.key
other_tile Alone u v f d = f
other_tile Together u v f d = λ p. d (f p)

-- an entry is of one job
its_job : (j : ℕ) (u : Op) → mine j u ≡ true → j ≡ u.job
its_job j u e = eqb-true j u.job (both (not u.done) (eqb j u.job) e).1

one_job : {A : Type 0} (i j : ℕ) (u : Op) → i ≢ j → mine i u ≡ true → mine j u ≡ true → A
one_job i j u d a b = absurd (d (its_job i u a ∙ sym (its_job j u b)))

module _ (r : Rule) (j : ℕ) (u : Op) (d : u.job ≢ j) where
  recover_past : (a : Step) (us : List Op) (t : List ℕ) → Ascending t → FreeAfter r u us
      → recover j us (apply a u.key t) ≡ apply a u.key (recover j us t)
  recover_past a [] t asc f = refl
  recover_past a (v ∷ us) t asc f = go (mine j v) refl (recover_past a us t asc f.1)
    where
      go : (b : Bool) → mine j v ≡ b → recover j us (apply a u.key t) ≡ apply a u.key (recover j us t)
          → cond b (undo v (recover j us (apply a u.key t))) (recover j us (apply a u.key t))
          ≡ apply a u.key (cond b (undo v (recover j us t)) (recover j us t))
      go true e ih =
          ap (undo v) ih
          ∙ apply_comm (inverse v) a v.key u.key (recover j us t) (recover_ascending j us t asc)
          (λ p. other_tile r u v f.0 (λ q. d (q ∙ sym (its_job j v e))) (sym p))
      go false e ih = ih

  undo_past : (us : List Op) (t : List ℕ) → Ascending t → (changes (inverse u) ≡ true → FreeAfter r u us)
      → recover j us (undo u t) ≡ undo u (recover j us t)
  undo_past us t asc = go (inverse u)
    where
      go : (a : Step) → (changes a ≡ true → FreeAfter r u us) → recover j us (apply a u.key t) ≡ apply a u.key (recover j us t)
      go put f = recover_past put us t asc (f refl)
      go clear f = recover_past clear us t asc (f refl)
      go skip f = refl

-- two jobs that are undone
module _ (r : Rule) (i j : ℕ) (d : i ≢ j) (t₀ t : List ℕ) (asc : Ascending t) where
  recover_recover : (us : List Op) → SoundTable r t₀ us → recover i us (recover j us t) ≡ recover j us (recover i us t)
  recover_recover [] s = refl
  recover_recover (u ∷ us) s = go (mine i u) (mine j u) refl refl (recover_recover us s.1)
    where
      past : (k l : ℕ) → mine k u ≡ true → k ≢ l → recover l us (undo u (recover k us t)) ≡ undo u (recover l us (recover k us t))
      past k l m n =
          undo_past r l u (λ p. n (its_job k u m ∙ p)) us (recover k us t) (recover_ascending k us t asc) s.0.own_tile

      go : (a b : Bool) → mine i u ≡ a → mine j u ≡ b → recover i us (recover j us t) ≡ recover j us (recover i us t)
          → cond a (undo u (recover i us (cond b (undo u (recover j us t)) (recover j us t)))) (recover i us (cond b (undo u (recover j us t)) (recover j us t)))
          ≡ cond b (undo u (recover j us (cond a (undo u (recover i us t)) (recover i us t)))) (recover j us (cond a (undo u (recover i us t)) (recover i us t)))
      go true true e f ih = one_job i j u d e f
      go true false e f ih = ap (undo u) ih ∙ sym (past i j e d)
      go false true e f ih = past j i f (λ p. d (sym p)) ∙ ap (undo u) ih
      go false false e f ih = ih

-- the entries of another job
module _ (i j : ℕ) where
  recover_others : i ≢ j → (us : List Op) (t : List ℕ) → recover i (others j us) t ≡ recover i us t
  recover_others d [] t = refl
  recover_others d (u ∷ us) t = go (mine i u) (mine j u) refl refl (recover_others d us t)
    where
      go : (a b : Bool) → mine i u ≡ a → mine j u ≡ b → recover i (others j us) t ≡ recover i us t
          → recover i (cond b (others j us) (u ∷ others j us)) t ≡ cond a (undo u (recover i us t)) (recover i us t)
      go true true e f ih = one_job i j u d e f
      go true false e f ih = rw e (ap (undo u) ih)
      go false true e f ih = ih
      go false false e f ih = rw e ih

  others_others : (us : List Op) → others i (others j us) ≡ others j (others i us)
  others_others [] = refl
  others_others (u ∷ us) = go (mine i u) (mine j u) refl refl (others_others us)
    where
      go : (a b : Bool) → mine i u ≡ a → mine j u ≡ b → others i (others j us) ≡ others j (others i us)
          → others i (cond b (others j us) (u ∷ others j us)) ≡ others j (cond a (others i us) (u ∷ others i us))
      go true true e f ih = ih
      go true false e f ih = rw e ih
      go false true e f ih = rw f ih
      go false false e f ih = rw (e, f) (ap {B = List Op} (λ l. u ∷ l) ih)

-- the marks
close_close : (ms : List Bool) (i j : ℕ) → set (set ms i false) j false ≡ set (set ms j false) i false
close_close [] i j = refl
close_close (b ∷ bs) zero zero = refl
close_close (b ∷ bs) zero (suc j) = refl
close_close (b ∷ bs) (suc i) zero = refl
close_close (b ∷ bs) (suc i) (suc j) = ap {B = List Bool} (λ l. b ∷ l) (close_close bs i j)

-- ONE END AND THEN ANOTHER
-- The three facts that an abort is asked for are `recover_others`, once for each side, and `recover_recover`; the last alone needs that the table is sound
pub either_first : EitherFirst careful
either_first r m asc sound e f d k = record { tiles = tiles_so e f d k; table = table_so e f k }
  where
    table_so : (e f : End) → (ended_by careful (ended_by careful m e) f).table ≡ (ended_by careful (ended_by careful m f) e).table
    table_so (keeps i) (keeps j) = others_others j i m.table
    table_so (keeps i) (cancels j) = others_others j i m.table
    table_so (cancels i) (keeps j) = others_others j i m.table
    table_so (cancels i) (cancels j) = others_others j i m.table

    tiles_so : (e f : End) → whose e ≢ whose f → (ended_by careful (ended_by careful m e) f).tiles ≡ (ended_by careful (ended_by careful m f) e).tiles
    tiles_so (keeps i) (keeps j) d = refl
    tiles_so (keeps i) (cancels j) d = recover_others j i (λ p. d (sym p)) m.table m.tiles
    tiles_so (cancels i) (keeps j) d = sym (recover_others i j d m.table m.tiles)
    tiles_so (cancels i) (cancels j) d =
        let us = m.table in
        let t = m.tiles in
        recover_others j i (λ p. d (sym p)) us (recover i us t)
        ∙ recover_recover r j i (λ p. d (sym p)) t t asc us sound
        ∙ sym (recover_others i j d us (recover j us t))

-- of a state: its marks, and its book
abbrev pub ends : State → End → State
ends s e = perform s (event (ending e))

book_end : (s : State) (e : End) → (ends s e).book ≡ ended_by careful s.book e
book_end s (keeps job) = refl
book_end s (cancels job) = refl

pub marks_end : (s : State) (e : End) → (ends s e).marks ≡ set s.marks (whose e) false
marks_end s (keeps job) = refl
marks_end s (cancels job) = refl

module _ (r : Rule) (s : State) (asc : Ascending s.book.tiles) (sound : SoundTable r s.book.tiles s.book.table) where
  pub state_either_first : (e f : End) → whose e ≢ whose f → ends (ends s e) f ≡ ends (ends s f) e
  state_either_first e f d k = record { rule = s.rule; marks = marks_so k; book = book_so k }
    where
      two_marks : (e f : End) → (ends (ends s e) f).marks ≡ set (set s.marks (whose e) false) (whose f) false
      two_marks e f = marks_end (ends s e) f ∙ ap (λ ms. set ms (whose f) false) (marks_end s e)

      two_books : (e f : End) → (ends (ends s e) f).book ≡ ended_by careful (ended_by careful s.book e) f
      two_books e f = book_end (ends s e) f ∙ ap (λ m. ended_by careful m f) (book_end s e)

      marks_so : (ends (ends s e) f).marks ≡ (ends (ends s f) e).marks
      marks_so = two_marks e f ∙ close_close s.marks (whose e) (whose f) ∙ sym (two_marks f e)

      book_so : (ends (ends s e) f).book ≡ (ends (ends s f) e).book
      book_so = two_books e f ∙ either_first r s.book asc sound e f d ∙ sym (two_books f e)
