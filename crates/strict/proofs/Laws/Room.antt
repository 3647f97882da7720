-- The room that the recoveries may need
use Rattle.std.specs.Prelude.{Bool, ◌&&◌, cond, false, not, true, List, [], ◌++◌, ◌∷◌, ◌↔◌, ◌≢◌, ◌≡◌, refl, ◌+◌, ◌<◌, ◌≤◌, ℕ, eqb, length}
use Rattle.std.proofs.Common.{◌∙◌, ap, ap₂, subst, sym, arith, eqb-true}
use Rattle.std.proofs.lemmas.Bool.{eqb-false}
use Rattle.lists.specs.Truth.{by_cond, one_if}
use Rattle.strict.specs.Book.{Admitted, Book, Roomy, book_after, counted, needs_place, others, places_taken, recover, reserved, spoken_by, step}
use Rattle.strict.specs.Choices.{Choice}
use Rattle.strict.specs.Histories.{Event, abort, commit, kept, mine, open_job, operation, unfinished}
use Rattle.strict.proofs.Laws.Counted.{counted_abort, counted_back, counted_commit, counted_few, counted_operation}
pub use Rattle.strict.proofs.Laws.Sizes.{length_delete, length_insert}
use Rattle.strict.proofs.Laws.Ending.{recover_ascending}
use Rattle.strict.proofs.Laws.Following.{follows, same_book}
use Rattle.strict.proofs.Laws.Listwise.{choice, dropped, dropped_left}
use Rattle.strict.proofs.Laws.Members.{ascending_apply}
use Rattle.strict.proofs.Laws.Undoing.{Orderly, alone_apart, chosen, groups_apart, orderly_back, run_ascending}
use Rattle.strict.specs.Operations.{Op, after, apply, begun, effect, inverse, kind, of_sheet, recovery, undo}
use Rattle.strict.specs.Strict.{Log, Pick, ◌▷◌, back, empty, in_groups, run, size, without}
use Rattle.strict.specs.Tiles.{Ascending, member}
use Rattle.strict.specs.declared.Procedure.{Procedure}
use Rattle.strict.specs.declared.Procedure.TheVariants.{Del, Ins, Mem}
use Rattle.strict.specs.declared.Rule.{Rule}
use Rattle.strict.specs.declared.Rule.TheVariants.{Alone, Together}

-- an operation that finds the tile as its kind says: kind 1 adds a tile, kind 3 takes one away
pub length_after : (p : Procedure) (f : Bool) (k : ℕ) (t : List ℕ) → Ascending t → f ≡ member k t
    → length (apply (effect p) k t) + one_if (eqb (kind p f) 3) ≡ length t + one_if (eqb (kind p f) 1)
length_after Ins false k t asc m = let e = rw (← m) at (length_insert k t asc) in omega arith
length_after Ins true k t asc m = let e = rw (← m) at (length_insert k t asc) in omega arith
length_after Del true k t asc m = let e = rw (← m) at (length_delete k t asc) in omega arith
length_after Del false k t asc m = let e = rw (← m) at (length_delete k t asc) in omega arith
length_after Mem true k t asc m = refl
length_after Mem false k t asc m = refl

reserved_last : (us : List Op) (o : Op) → reserved (us ++ (o ∷ [])) ≡ reserved us + one_if (eqb (kind o.proc o.found) 3)
reserved_last [] o = omega arith
reserved_last (u ∷ us) o = let ih = reserved_last us o in omega arith

pub room_operation : (r : Rule) (m : Book) (j sheet : ℕ) (p : Procedure) (k : ℕ) → Ascending m.tiles
    → places_taken r (step m (operation j sheet p k)) ≡ places_taken r m + one_if (needs_place r m.table (begun j p k m.tiles))
room_operation Together m j sheet p k asc = counted_operation m.tiles m.table (of_sheet sheet (begun j p k m.tiles)) asc refl
room_operation Alone m j sheet p k asc =
    let a = length_after p (member k m.tiles) k m.tiles asc refl in
    let b = reserved_last m.table (of_sheet sheet (begun j p k m.tiles)) in
    omega arith

reserved_commit : (j : ℕ) (us : List Op) → reserved (others j us) ≤ reserved us
reserved_commit j [] = omega arith
reserved_commit j (u ∷ us) =
    let ih = reserved_commit j us in
    by_cond (λ l. reserved l ≤ reserved (u ∷ us)) (mine j u) (λ e. omega arith) (λ e. omega arith)

pub room_commit : (r : Rule) (j : ℕ) (m : Book) → Ascending m.tiles → places_taken r (step m (commit j)) ≤ places_taken r m
room_commit Alone j m asc = let h = reserved_commit j m.table in omega arith
room_commit Together j m asc = counted_commit j m.tiles m.table asc

-- a recovery adds a tile only where it is that of a kind 3
length_undo : (o : Op) (t : List ℕ) → Ascending t → length (undo o t) ≤ length t + one_if (eqb (kind o.proc o.found) 3)
length_undo o t asc = go o.proc o.found
  where
    go : (p : Procedure) (f : Bool) → length (apply (recovery p f) o.key t) ≤ length t + one_if (eqb (kind p f) 3)
    go Ins false = let e = length_delete o.key t asc in omega arith
    go Ins true = omega arith
    go Del true = let e = length_insert o.key t asc in omega arith
    go Del false = omega arith
    go Mem true = omega arith
    go Mem false = omega arith

reserved_abort : (j : ℕ) (t : List ℕ) (us : List Op) → Ascending t → length (recover j us t) + reserved (others j us) ≤ length t + reserved us
reserved_abort j t [] asc = omega arith
reserved_abort j t (u ∷ us) asc = go (mine j u) (reserved_abort j t us asc) (length_undo u (recover j us t) (recover_ascending j us t asc))
  where
    go : (b : Bool) → length (recover j us t) + reserved (others j us) ≤ length t + reserved us
        → length (undo u (recover j us t)) ≤ length (recover j us t) + one_if (eqb (kind u.proc u.found) 3)
        → length (cond b (undo u (recover j us t)) (recover j us t)) + reserved (cond b (others j us) (u ∷ others j us)) ≤ length t + reserved (u ∷ us)
    go true ih l = omega arith
    go false ih l = omega arith

pub room_abort : (r : Rule) (j : ℕ) (m : Book) → Ascending m.tiles → places_taken r (step m (abort j)) ≤ places_taken r m
room_abort Alone j m asc = reserved_abort j m.tiles m.table asc
room_abort Together j m asc = counted_abort j m.tiles m.table asc

pub nothing_spoken : (r : Rule) (t : List ℕ) → spoken_by r t [] ≡ 0
nothing_spoken Alone t = refl
nothing_spoken Together t = refl

-- no more are taken where a job fails as one
pub room_either : (r : Rule) (m : Book) → places_taken Together m ≤ places_taken r m
room_either Alone m = let h = counted_few m.tiles m.table in omega arith
room_either Together m = omega arith

-- A choice of unfinished operations to undo leaves no more tiles than places are taken
back_room : (q : Pick) (os : Log Op) (t : List ℕ) → Ascending t
    → length (back (λ l o. not o.done && q l o) os t) ≤ length t + reserved (unfinished os)
back_room q empty t asc = omega arith
back_room q (os ▷ o) t asc = go o.done (q os o) (back_room q os) (reserved_last (unfinished os) o) (length_undo o t asc)
  where
    go : (d b : Bool) → ((t : List ℕ) → Ascending t → length (back (λ l o. not o.done && q l o) os t) ≤ length t + reserved (unfinished os))
        → reserved (unfinished os ++ (o ∷ [])) ≡ reserved (unfinished os) + one_if (eqb (kind o.proc o.found) 3)
        → length (undo o t) ≤ length t + one_if (eqb (kind o.proc o.found) 3)
        → length (back (λ l o. not o.done && q l o) os (cond (not d && b) (undo o t) t)) ≤ length t + reserved (cond d (unfinished os) (unfinished os ++ (o ∷ [])))
    go true b ih r l = ih t asc
    go false true ih r l = let i = ih (undo o t) (ascending_apply (inverse o) o.key t asc) in omega arith
    go false false ih r l = let i = ih t asc in omega arith

enough : (s : List ℕ) (os cs : Log Op) → Ascending s → Orderly Alone s os → Choice os cs
    → length (run s cs) ≤ length (run s os) + reserved (unfinished os)
enough s os cs asc h c =
    let d = dropped c in
    subst (λ l. length l ≤ length (run s os) + reserved (unfinished os))
    (orderly_back Alone s (in_groups Alone d) asc (groups_apart Alone d) os h ∙ ap (run s) (dropped_left c))
    (back_room (λ l o. d (size l)) os (run s os) (run_ascending s os asc))

-- and neither does a choice of groups, by either rule
groups_room : (r : Rule) (s : List ℕ) (os : Log Op) (d : ℕ → Bool) → Ascending s → Orderly r s os
    → length (run s (without (in_groups r d) os)) ≤ places_taken r (record { tiles = run s os; table = unfinished os })
groups_room r s os d asc h = go r same (run_ascending s (without (in_groups r d) os) asc)
  where
    same : back (in_groups r d) os (run s os) ≡ run s (without (in_groups r d) os)
    same = orderly_back r s (in_groups r d) asc (groups_apart r d) os h

    go : (r : Rule) {l : List ℕ} → back (in_groups r d) os (run s os) ≡ l → Ascending l → length l ≤ places_taken r (record { tiles = run s os; table = unfinished os })
    go Alone e lsc = subst (λ l. length l ≤ length (run s os) + reserved (unfinished os)) e (back_room (λ l o. d (size l)) os (run s os) (run_ascending s os asc))
    go Together e lsc =
        subst (λ l. length l ≤ length (run s os) + counted (run s os) (unfinished os)) e
        (counted_back (λ l o. d o.job) os (run s os) (run_ascending s os asc) (subst Ascending (sym e) lsc))

pub room_enough : (r : Rule) (s : List ℕ) (h : Log Event) → Ascending s → Admitted r s h → (d : ℕ → Bool)
    → length (run s (without (in_groups r d) (kept s h))) ≤ places_taken r (book_after s h)
room_enough r s h asc a d =
    let f = follows r s h asc a in
    subst (λ m. length (run s (without (in_groups r d) (kept s h))) ≤ places_taken r m) (sym (same_book f)) (groups_room r s (kept s h) d asc f.orderly)

-- where each operation found room, no more places are taken than there are
room_left : (b : Bool) (n N : ℕ) → n ≤ N → b && eqb n N ≡ false → n + one_if b ≤ N
room_left true n N l e = let d : n ≢ N = eqb-false n N e in omega arith
room_left false n N l e = omega arith

pub roomy_fits : (r : Rule) (N : ℕ) (s : List ℕ) (h : Log Event) → Ascending s → Admitted r s h → Roomy r N s h → places_taken r (book_after s h) ≤ N
roomy_fits r N s h asc a f = go r h a f
  where
    sorted : (r : Rule) (h : Log Event) → Admitted r s h → Ascending (book_after s h).tiles
    sorted r h a = subst Ascending (sym (follows r s h asc a).tiles_run) (run_ascending s (kept s h) asc)

    go : (r : Rule) (h : Log Event) → Admitted r s h → Roomy r N s h → places_taken r (book_after s h) ≤ N
    go Alone empty a f = omega arith
    go Together empty a f = omega arith
    go r (h ▷ open_job j) a f = go r h a.0 f
    go r (h ▷ operation j sheet p k) a f =
        let m = book_after s h in
        let e = room_operation r m j sheet p k (sorted r h a.0) in
        let l = room_left (needs_place r m.table (begun j p k m.tiles)) (places_taken r m) N (go r h a.0 f.0) f.1 in
        omega arith
    go r (h ▷ commit j) a f = let e = room_commit r j (book_after s h) (sorted r h a.0) in let l = go r h a.0 f in omega arith
    go r (h ▷ abort j) a f = let e = room_abort r j (book_after s h) (sorted r h a.0) in let l = go r h a.0 f in omega arith

-- and to drop the deletes alone leaves as many
abbrev deletes : Pick
deletes l o = not o.done && eqb (kind o.proc o.found) 3

needed : (s : List ℕ) (os : Log Op) → Ascending s → Orderly Alone s os
    → length (run s (without deletes os)) ≡ length (run s os) + reserved (unfinished os)
needed s empty asc h = omega arith
needed s (os ▷ o) asc h = go o.done refl three refl (needed s os asc h.0) (reserved_last (unfinished os) o)
  where
    three : Bool
    three = eqb (kind o.proc o.found) 3

    one : Bool
    one = eqb (kind o.proc o.found) 1

    cs : Log Op
    cs = without deletes os

    -- o adds, or takes away, a tile alike in the whole list and in the choice that has it
    alike : (t : List ℕ) → Ascending t → o.found ≡ member o.key t → length (after o t) + one_if three ≡ length t + one_if one
    alike t = length_after o.proc o.found o.key t

    stays : not o.done && three ≡ false → length (after o (run s cs)) + one_if three ≡ length (run s cs) + one_if one
    stays e =
        let w = alone_apart (λ l o. eqb (kind o.proc o.found) 3) in
        alike (run s cs) (run_ascending s cs asc) (h.1 ∙ sym ((chosen Alone s deletes w os h.0).agree o.key (w os o h.2 e)))

    adds_none : three ≡ true → one ≡ false
    adds_none e = ap (λ n. eqb n 1) (eqb-true (kind o.proc o.found) 3 e)

    go : (d : Bool) → o.done ≡ d → (b : Bool) → three ≡ b → length (run s cs) ≡ length (run s os) + reserved (unfinished os)
        → reserved (unfinished os ++ (o ∷ [])) ≡ reserved (unfinished os) + one_if three
        → length (run s (cond (not d && b) cs (cs ▷ o))) ≡ length (after o (run s os)) + reserved (cond d (unfinished os) (unfinished os ++ (o ∷ [])))
    go true q b e ih r =
        let x = alike (run s os) (run_ascending s os asc) h.1 in
        let y = stays (ap (λ d. not d && three) q) in
        omega arith
    go false q true e ih r =
        let x = rw (adds_none e, e) at (alike (run s os) (run_ascending s os asc) h.1) in
        let z = rw e at r in
        omega arith
    go false q false e ih r =
        let x = alike (run s os) (run_ascending s os asc) h.1 in
        let y = stays (ap₂ (λ d b. not d && b) q e) in
        let z = rw e at r in
        omega arith

pub room_exactly : (s : List ℕ) (h : Log Event) → Ascending s → Admitted Alone s h → (N : ℕ)
    → ((cs : Log Op) × Choice (kept s h) cs × (N < length (run s cs))) ↔ (N < places_taken Alone (book_after s h))
room_exactly s h asc a N =
    let f = follows Alone s h asc a in
    let os = kept s h in
    let same : places_taken Alone (book_after s h) ≡ length (run s os) + reserved (unfinished os) = ap (places_taken Alone) (same_book f) in (
      λ c. let e = enough s os c.0 asc f.orderly c.1 in let l = c.2 in omega arith,
      λ l. (without deletes os, choice (λ x o. eqb (kind o.proc o.found) 3) os, let e = needed s os asc f.orderly in omega arith),
    )
