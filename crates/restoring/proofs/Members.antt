-- Which tiles are there once they are restored, tile by tile
use mathlib.Core.Bool.{Bool, ◌&&◌, ◌||◌, and-true, cond, false, not, true}
use mathlib.Core.List.{List, [], ◌∷◌}
use mathlib.Core.Logic.{◌≢◌}
use mathlib.Core.Path.{◌∙◌, ◌≡◌, ap, refl, sym}
use Prim.Native.Nat.{◌+◌, ◌<◌, ◌≤◌, suc, zero, ℕ}
use native.Mathlib.Omega.{arith}
use lib.Dec.{eqb, ltb}
use lib.ListN.{get_or, length, replicate, set}
use lib.Seq.{get_or-set_other, get_or-set_same}
use borrow.Author.Tests.{eqb-true, ltb-false, ltb-true}
use Rattle.lists.specs.Truth.{Same, never, other, same, same?}
use Rattle.strict.proofs.Laws.Members.{above_ascending, above_less, ascending_apply, member_apply, not_own, same_members, touch}
use Rattle.strict.proofs.Laws.Room.{length_delete, length_insert}
use Rattle.strict.specs.Operations.{Step, apply, clear, effect, put, skip}
use Rattle.strict.specs.Tiles.{Above, Ascending, member}
use Rattle.strict.specs.declared.Procedure.TheVariants.{Del, Ins, Mem}
use Rattle.strict.specs.declared.Procedure.{Procedure}
use Rattle.search.specs.Table.{position_of}
use Rattle.tiles.proofs.Laws.{absent_past, present_there}
use Rattle.runs.specs.Runs.{apply_all}
use Rattle.restoring.specs.Notes.{marked_by, restored, unmarked}

-- PUT IN, ONE AFTER ANOTHER
or_shift : (a b c : Bool) → b || (a || c) ≡ (a || b) || c
or_shift true true c = refl
or_shift true false c = refl
or_shift false b c = refl

member_all : (j : ℕ) (ks t : List ℕ) → member j (apply_all put ks t) ≡ member j ks || member j t
member_all j [] t = refl
member_all j (k ∷ ks) t =
    member_all j ks (apply put k t) ∙ ap (λ b. member j ks || b) (member_apply put j k t) ∙ or_shift (eqb j k) (member j ks) (member j t)

ascending_all : (ks t : List ℕ) → Ascending t → Ascending (apply_all put ks t)
ascending_all [] t asc = asc
ascending_all (k ∷ ks) t asc = ascending_all ks (apply put k t) (ascending_apply put k t asc)

-- a step adds no more than one tile
pub one_more : (a : Step) (k : ℕ) (t : List ℕ) → Ascending t → length (apply a k t) ≤ length t + 1
one_more put k t asc = omega (arith, length_insert k t asc)
one_more clear k t asc = omega (arith, length_delete k t asc)
one_more skip k t asc = omega arith

-- WITHOUT A MARK
above_unmarked : (n : ℕ) (ms : List Bool) (t : List ℕ) → Above n t → Above n (unmarked ms t)
above_unmarked n [] t a = a
above_unmarked n (m ∷ ms) [] a = tt
above_unmarked n (true ∷ ms) (x ∷ xs) a = above_less (unmarked ms xs) a.0 (above_unmarked x ms xs a.1)
above_unmarked n (false ∷ ms) (x ∷ xs) a = (a.0, above_unmarked x ms xs a.1)

pub ascending_unmarked : (ms : List Bool) (t : List ℕ) → Ascending t → Ascending (unmarked ms t)
ascending_unmarked [] t a = a
ascending_unmarked (m ∷ ms) [] a = tt
ascending_unmarked (true ∷ ms) (x ∷ xs) a = above_ascending x (unmarked ms xs) (above_unmarked x ms xs a)
ascending_unmarked (false ∷ ms) (x ∷ xs) a = above_unmarked x ms xs a

pub none_marked : (n : ℕ) (t : List ℕ) → unmarked (replicate n false) t ≡ t
none_marked zero t = refl
none_marked (suc n) [] = refl
none_marked (suc n) (x ∷ xs) = ap {B = List ℕ} (λ l. x ∷ l) (none_marked n xs)

-- a tile stays if there is no mark at its place
member_unmarked : (j : ℕ) (ms : List Bool) (t : List ℕ) → Ascending t → member j (unmarked ms t) ≡ member j t && not (get_or ms (position_of j t) false)
member_unmarked j [] t asc = sym (and-true (member j t))
member_unmarked j (m ∷ ms) [] asc = refl
member_unmarked j (m ∷ ms) (x ∷ xs) asc = go m (ltb x j) refl (same? j x) (member_unmarked j ms xs (above_ascending x xs asc))
  where
    passed : (m : Bool) → eqb j x ≡ false → member j (cond m (unmarked ms xs) (x ∷ unmarked ms xs)) ≡ member j (unmarked ms xs)
    passed true q = refl
    passed false q = rw q

    none : j < x → member j (unmarked ms xs) ≡ false
    none h = not_own j (unmarked ms xs) (above_unmarked j ms xs (above_less xs h asc))

    go : (m b : Bool) → ltb x j ≡ b → Same j x → member j (unmarked ms xs) ≡ member j xs && not (get_or ms (position_of j xs) false)
        → member j (cond m (unmarked ms xs) (x ∷ unmarked ms xs)) ≡ (eqb j x || member j xs) && not (get_or (m ∷ ms) (cond b (suc (position_of j xs)) 0) false)
    go m true e (same p q) ih = let h = ltb-true x j e in absurd (omega arith)
    go m true e (other p q) ih = passed m q ∙ ih ∙ ap (λ b. (b || member j xs) && not (get_or ms (position_of j xs) false)) (sym q)
    go true false e (same p q) ih = rw q (rw p (not_own x (unmarked ms xs) (above_unmarked x ms xs asc)))
    go false false e (same p q) ih = rw q
    go m false e (other p q) ih =
        let h : j < x = let l = ltb-false x j e in omega arith in
        passed m q ∙ none h ∙ rw (q, not_own j xs (above_less xs h asc))

-- THE PLACE of a tile that is there
module _ (t : List ℕ) (asc : Ascending t) where
  pub place_inside : (k : ℕ) → member k t ≡ true → position_of k t < length t
  place_inside k here = go (ltb (position_of k t) (length t)) refl
    where
      go : (b : Bool) → ltb (position_of k t) (length t) ≡ b → position_of k t < length t
      go true e = ltb-true (position_of k t) (length t) e
      go false e = never (sym (absent_past k t asc refl (ltb-false (position_of k t) (length t) e) ∙ here))

  stands : (k : ℕ) → member k t ≡ true → get_or t (position_of k t) 0 ≡ k
  stands k here = eqb-true (get_or t (position_of k t) 0) k (present_there k t asc refl (place_inside k here) ∙ here)

  own_place : (j k : ℕ) → member j t ≡ true → member k t ≡ true → position_of j t ≡ position_of k t → j ≡ k
  own_place j k p q e = sym (stands j p) ∙ ap (λ i. get_or t i 0) e ∙ stands k q

  -- RESTORED
  pub restored_ascending : (ms : List Bool) (back : List ℕ) → Ascending (restored ms back t)
  restored_ascending ms back = ascending_all back (unmarked ms t) (ascending_unmarked ms t asc)

  member_restored : (ms : List Bool) (back : List ℕ) (j : ℕ) → member j (restored ms back t) ≡ member j back || (member j t && not (get_or ms (position_of j t) false))
  member_restored ms back j = member_all j back (unmarked ms t) ∙ ap (λ b. member j back || b) (member_unmarked j ms t asc)

  module _ (ms : List Bool) (back : List ℕ) (k : ℕ) where
    pub there_present : member k t ≡ true → member k back ≡ false → member k (restored ms back t) ≡ not (get_or ms (position_of k t) false)
    there_present here free = member_restored ms back k ∙ rw (free, here)

    pub there_absent : member k t ≡ false → member k (restored ms back t) ≡ member k back
    there_absent gone = member_restored ms back k ∙ rw gone (or_none (member k back))
      where
        or_none : (b : Bool) → b || false ≡ b
        or_none true = refl
        or_none false = refl

    -- a mark set or taken away
    marks_others : (b : Bool) (j : ℕ) → member k t ≡ true → j ≢ k
        → member j t && not (get_or (set ms (position_of k t) b) (position_of j t) false) ≡ member j t && not (get_or ms (position_of j t) false)
    marks_others b j here apart = go (member j t) refl
      where
        go : (m : Bool) → member j t ≡ m → m && not (get_or (set ms (position_of k t) b) (position_of j t) false) ≡ m && not (get_or ms (position_of j t) false)
        go true e = ap not (get_or-set_other ms (position_of k t) (position_of j t) b false (λ p. apart (own_place j k e here p)))
        go false e = refl

    pub marked_one : (p : Procedure) → member k t ≡ true → member k back ≡ false → position_of k t < length ms
        → restored (marked_by p (position_of k t) ms) back t ≡ apply (effect p) k (restored ms back t)
    marked_one p here free inside =
        same_members (restored (marked_by p (position_of k t) ms) back t) (apply (effect p) k (restored ms back t))
        (restored_ascending (marked_by p (position_of k t) ms) back) (ascending_apply (effect p) k (restored ms back t) (restored_ascending ms back))
        (λ j. member_restored (marked_by p (position_of k t) ms) back j ∙ by p j (same? j k)
        ∙ sym (member_apply (effect p) j k (restored ms back t) ∙ ap (touch (effect p) (eqb j k)) (member_restored ms back j)))
      where
        at : ℕ
        at = position_of k t

        by : (p : Procedure) (j : ℕ) → Same j k
            → member j back || (member j t && not (get_or (marked_by p at ms) (position_of j t) false)) ≡ touch (effect p) (eqb j k) (member j back || (member j t && not (get_or ms (position_of j t) false)))
        by Ins j (same e q) = rw (q, e, free, here, get_or-set_same ms at false false inside)
        by Ins j (other e q) = rw q (ap (λ b. member j back || b) (marks_others false j here e))
        by Del j (same e q) = rw (q, e, free, here, get_or-set_same ms at true false inside)
        by Del j (other e q) = rw q (ap (λ b. member j back || b) (marks_others true j here e))
        by Mem j e = refl

    -- a tile that comes back, or that comes back no more
    pub awaited_one : (p : Procedure) → member k t ≡ false → restored ms (apply (effect p) k back) t ≡ apply (effect p) k (restored ms back t)
    awaited_one p gone =
        same_members (restored ms (apply (effect p) k back) t) (apply (effect p) k (restored ms back t))
        (restored_ascending ms (apply (effect p) k back)) (ascending_apply (effect p) k (restored ms back t) (restored_ascending ms back))
        (λ j. member_restored ms (apply (effect p) k back) j ∙ ap (λ b. b || (member j t && not (get_or ms (position_of j t) false))) (member_apply (effect p) j k back) ∙ by p j (same? j k)
        ∙ sym (member_apply (effect p) j k (restored ms back t) ∙ ap (touch (effect p) (eqb j k)) (member_restored ms back j)))
      where
        by : (p : Procedure) (j : ℕ) → Same j k
            → touch (effect p) (eqb j k) (member j back) || (member j t && not (get_or ms (position_of j t) false)) ≡ touch (effect p) (eqb j k) (member j back || (member j t && not (get_or ms (position_of j t) false)))
        by Ins j (same e q) = rw q
        by Ins j (other e q) = rw q
        by Del j (same e q) = rw (q, e, gone)
        by Del j (other e q) = rw q
        by Mem j e = refl
