-- The tiles with those that are counted besides
use Rattle.std.specs.Prelude.{Bool, ◌&&◌, ◌||◌, cond, false, not, true, List, [], ◌++◌, ◌∷◌, ◌≡◌, refl, ◌+◌, ◌≤◌, ℕ, eqb, length}
use Rattle.std.proofs.Math.Bool.{or_assoc, or_comm, or-false, or-true}
use Rattle.std.proofs.Common.{◌∙◌, ap, ap₂, sym, arith, eqb-true}
use Rattle.lists.specs.Truth.{Same, by_cond, never, one_if, other, same, same?}
use Rattle.strict.specs.Book.{CountedTiles, counted, deleted, others, recover, reserved}
use Rattle.strict.specs.Histories.{mine, unfinished}
use Rattle.strict.proofs.Laws.Ending.{recover_ascending}
use Rattle.strict.proofs.Laws.Members.{ascending_apply, member_apply, same_members, touch}
use Rattle.strict.proofs.Laws.Sizes.{length_insert, sub_length}
use Rattle.strict.specs.Operations.{Op, after, effect, inverse, kind, put, recovery, undo}
use Rattle.strict.specs.Strict.{Log, Pick, ◌▷◌, back, empty}
use Rattle.strict.specs.Tiles.{Ascending, insert_tile, member}
use Rattle.strict.specs.declared.Procedure.TheVariants.{Del, Ins, Mem}
use Rattle.strict.specs.declared.Procedure.{Procedure}

-- the tiles with those of the entries of kind 3
abbrev three : Op → Bool
three u = eqb (kind u.proc u.found) 3

fill : List Op → List ℕ → List ℕ
fill [] t = t
fill (u ∷ us) t = cond (three u) (insert_tile u.key (fill us t)) (fill us t)

fill_ascending : (us : List Op) (t : List ℕ) → Ascending t → Ascending (fill us t)
unfolding fill
fill_ascending [] t asc = asc
fill_ascending (u ∷ us) t asc =
    let ih = fill_ascending us t asc in
    by_cond Ascending (three u) (λ e. ascending_apply put u.key (fill us t) ih) (λ e. ih)

member_fill : (k : ℕ) (us : List Op) (t : List ℕ) → member k (fill us t) ≡ deleted k us || member k t
unfolding fill
member_fill k [] t = refl
member_fill k (u ∷ us) t = go (three u) (member_fill k us t)
  where
    go : (b : Bool) → member k (fill us t) ≡ deleted k us || member k t
        → member k (cond b (insert_tile u.key (fill us t)) (fill us t)) ≡ ((b && eqb k u.key) || deleted k us) || member k t
    go true ih = member_apply put k u.key (fill us t) ∙ ap (λ b. eqb k u.key || b) ih ∙ sym (or_assoc (eqb k u.key) (deleted k us) (member k t))
    go false ih = ih

fill_counts : (us : List Op) (t : List ℕ) → Ascending t → length (fill us t) ≡ length t + counted t us
unfolding fill
fill_counts [] t asc = omega arith
fill_counts (u ∷ us) t asc = go (three u) (fill_counts us t asc)
  where
    go : (b : Bool) → length (fill us t) ≡ length t + counted t us
        → length (cond b (insert_tile u.key (fill us t)) (fill us t)) ≡ length t + (one_if (b && not (member u.key t || deleted u.key us)) + counted t us)
    go true ih =
        by (member u.key t || deleted u.key us) (member_fill u.key us t ∙ or_comm (deleted u.key us) (member u.key t))
        (length_insert u.key (fill us t) (fill_ascending us t asc))
      where
        by : (m : Bool) → member u.key (fill us t) ≡ m → length (insert_tile u.key (fill us t)) + one_if (member u.key (fill us t)) ≡ length (fill us t) + 1
            → length (insert_tile u.key (fill us t)) ≡ length t + (one_if (not m) + counted t us)
        by true e h = let h₁ = rw e at h in omega arith
        by false e h = let h₁ = rw e at h in omega arith
    go false ih = omega arith

pub counted_few : (t : List ℕ) (us : List Op) → counted t us ≤ reserved us
counted_few t [] = omega arith
counted_few t (u ∷ us) = go (three u) (not (member u.key t || deleted u.key us)) (counted_few t us)
  where
    go : (a b : Bool) → counted t us ≤ reserved us → one_if (a && b) + counted t us ≤ one_if a + reserved us
    go true true h = omega arith
    go true false h = omega arith
    go false b h = omega arith

-- the tiles that are counted
pub counted_tiles : (t : List ℕ) (us : List Op) → CountedTiles t us
counted_tiles t [] = record { those = []; each_once = tt; just_those = λ k. refl; so_many = refl }
counted_tiles t (u ∷ us) =
    let i = go (three u) (member u.key t) refl (deleted u.key us) refl (counted_tiles t us) in
    record { those = i.0; each_once = i.1; just_those = i.2; so_many = i.3 }
  where
    Fresh : Bool → Bool → Bool → Type 0
    Fresh c m d = (l : List ℕ) × Ascending l × ((k : ℕ) → member k l ≡ ((c && eqb k u.key) || deleted k us) && not (member k t)) × (length l ≡ one_if (c && not (m || d)) + counted t us)

    added : (i : CountedTiles t us) → member u.key t ≡ false → deleted u.key us ≡ false → Fresh true false false
    added i m d = (
      insert_tile u.key i.those,
      ascending_apply put u.key i.those i.each_once,
      λ k. member_apply put k u.key i.those ∙ ap (λ b. eqb k u.key || b) (i.just_those k) ∙ by k (same? k u.key),
      let l = length_insert u.key i.those i.each_once in
          let z : member u.key i.those ≡ false = i.just_those u.key ∙ ap (λ b. b && not (member u.key t)) d in
          let l₁ = rw z at l in
          let n = i.so_many in
          omega arith,
    )
      where
        by : (k : ℕ) → Same k u.key → eqb k u.key || (deleted k us && not (member k t)) ≡ (eqb k u.key || deleted k us) && not (member k t)
        by k (same p q) = rw q (sym (ap not (ap (λ x. member x t) p ∙ m)))
        by k (other p q) = rw q

    kept_so : (i : CountedTiles t us) (m d : Bool) → member u.key t ≡ m → deleted u.key us ≡ d → m || d ≡ true → Fresh true m d
    kept_so i m d x y e = (i.those, i.each_once, λ k. i.just_those k ∙ by k (same? k u.key), let n = i.so_many in rw e (omega arith))
      where
        bit : (m d : Bool) → m || d ≡ true → d && not m ≡ true && not m
        bit true true e = refl
        bit true false e = refl
        bit false true e = refl
        bit false false e = never (sym e)

        by : (k : ℕ) → Same k u.key → deleted k us && not (member k t) ≡ (eqb k u.key || deleted k us) && not (member k t)
        by k (same p q) =
            let dk = ap (λ z. deleted z us) p ∙ y in
            let mk = ap (λ z. member z t) p ∙ x in
            rw (q, dk, mk) (bit m d e)
        by k (other p q) = rw q

    go : (c m : Bool) → member u.key t ≡ m → (d : Bool) → deleted u.key us ≡ d → CountedTiles t us → Fresh c m d
    go false m x d y i = (i.those, i.each_once, i.just_those, let n = i.so_many in omega arith)
    go true false x false y i = added i x y
    go true true x d y i = kept_so i true d x y refl
    go true false x true y i = kept_so i false true x y refl

-- One operation more: its tile comes in where it is an ins of an absent tile
pub deleted_last : (k : ℕ) (us : List Op) (o : Op) → deleted k (us ++ (o ∷ [])) ≡ deleted k us || (three o && eqb k o.key)
deleted_last k [] o = or-false (three o && eqb k o.key)
deleted_last k (u ∷ us) o = ap (λ b. (three u && eqb k u.key) || b) (deleted_last k us o) ∙ sym (or_assoc (three u && eqb k u.key) (deleted k us) _)

filled_bits : (p : Procedure) (f here b m : Bool) → (here ≡ true → f ≡ m)
    → (b || (eqb (kind p f) 3 && here)) || touch (effect p) here m ≡ (eqb (kind p f) 1 && here) || (b || m)
filled_bits Ins false true true m h = refl
filled_bits Ins false true false m h = refl
filled_bits Ins false false true m h = refl
filled_bits Ins false false false m h = refl
filled_bits Ins true true true m h = refl
filled_bits Ins true true false m h = h refl
filled_bits Ins true false true m h = refl
filled_bits Ins true false false m h = refl
filled_bits Del true true true m h = refl
filled_bits Del true true false m h = h refl
filled_bits Del true false true m h = refl
filled_bits Del true false false m h = refl
filled_bits Del false true true m h = refl
filled_bits Del false true false m h = h refl
filled_bits Del false false true m h = refl
filled_bits Del false false false m h = refl
filled_bits Mem true here true m h = refl
filled_bits Mem true here false m h = refl
filled_bits Mem false here true m h = refl
filled_bits Mem false here false m h = refl

fill_operation : (t : List ℕ) (us : List Op) (o : Op) → Ascending t → o.found ≡ member o.key t
    → fill (us ++ (o ∷ [])) (after o t) ≡ cond (eqb (kind o.proc o.found) 1) (insert_tile o.key (fill us t)) (fill us t)
fill_operation t us o asc f =
    same_members _ _ (fill_ascending (us ++ (o ∷ [])) (after o t) (ascending_apply (effect o.proc) o.key t asc))
    (by_cond Ascending one (λ e. ascending_apply put o.key (fill us t) (fill_ascending us t asc)) (λ e. fill_ascending us t asc))
    (λ k. member_fill k (us ++ (o ∷ [])) (after o t)
    ∙ ap₂ (λ a b. a || b) (deleted_last k us o) (member_apply (effect o.proc) k o.key t)
    ∙ filled_bits o.proc o.found (eqb k o.key) (deleted k us) (member k t) (λ e. f ∙ ap (λ x. member x t) (sym (eqb-true k o.key e)))
    ∙ sym (go k one))
  where
    one : Bool
    one = eqb (kind o.proc o.found) 1

    go : (k : ℕ) (b : Bool) → member k (cond b (insert_tile o.key (fill us t)) (fill us t)) ≡ (b && eqb k o.key) || (deleted k us || member k t)
    go k true = member_apply put k o.key (fill us t) ∙ ap (λ b. eqb k o.key || b) (member_fill k us t)
    go k false = member_fill k us t

pub counted_operation : (t : List ℕ) (us : List Op) (o : Op) → Ascending t → o.found ≡ member o.key t
    → length (after o t) + counted (after o t) (us ++ (o ∷ [])) ≡ length t + counted t us + one_if (eqb (kind o.proc o.found) 1 && not (deleted o.key us))
counted_operation t us o asc f =
    let h₁ = fill_counts us t asc in
    let h₂ = fill_counts (us ++ (o ∷ [])) (after o t) (ascending_apply (effect o.proc) o.key t asc) in
    let h₃ = ap length (fill_operation t us o asc f) ∙ go (eqb (kind o.proc o.found) 1) refl in
    omega arith
  where
    absent : (p : Procedure) (g : Bool) → eqb (kind p g) 1 ≡ true → g ≡ false
    absent Ins false e = refl
    absent Ins true e = never (sym e)
    absent Del true e = never (sym e)
    absent Del false e = never (sym e)
    absent Mem true e = never (sym e)
    absent Mem false e = never (sym e)

    go : (b : Bool) → eqb (kind o.proc o.found) 1 ≡ b
        → length (cond b (insert_tile o.key (fill us t)) (fill us t)) ≡ length (fill us t) + one_if (b && not (deleted o.key us))
    go true e =
        by (deleted o.key us)
        (member_fill o.key us t ∙ ap (λ b. deleted o.key us || b) (sym f ∙ absent o.proc o.found e) ∙ or-false (deleted o.key us))
      where
        by : (b : Bool) → member o.key (fill us t) ≡ b → length (insert_tile o.key (fill us t)) ≡ length (fill us t) + one_if (not b)
        by true m = let l = rw m at (length_insert o.key (fill us t) (fill_ascending us t asc)) in omega arith
        by false m = let l = rw m at (length_insert o.key (fill us t) (fill_ascending us t asc)) in omega arith
    go false e = omega arith

-- Tiles that are there, or counted, where those of t are: no more than those
abbrev within : List Op → List ℕ → ℕ → Type 0
within us t k = deleted k us || member k t ≡ true

fits_within : (us : List Op) (t : List ℕ) (l : List ℕ) → Ascending t → Ascending l → ((k : ℕ) → member k l ≡ true → within us t k) → length l ≤ length t + counted t us
fits_within us t l asc lsc f =
    let h₁ = fill_counts us t asc in
    let h₂ = sub_length l (fill us t) lsc (fill_ascending us t asc) (λ k e. member_fill k us t ∙ f k e) in
    omega arith

or_cases : (a b c : Bool) → (a ≡ true → c ≡ true) → (b ≡ true → c ≡ true) → a || b ≡ true → c ≡ true
or_cases true b c f g e = f refl
or_cases false b c f g e = g e

-- fewer entries, where each tile is there or counted before
fewer : (us vs : List Op) (t l : List ℕ) → Ascending t → Ascending l → ((k : ℕ) → deleted k vs ≡ true → deleted k us ≡ true)
    → ((k : ℕ) → member k l ≡ true → within us t k) → length l + counted l vs ≤ length t + counted t us
fewer us vs t l asc lsc d m =
    let h₁ = fill_counts vs l lsc in
    let h₂ = fits_within us t (fill vs l) asc (fill_ascending vs l lsc)
    (λ k e. or_cases (deleted k vs) (member k l) _ (λ x. ap (λ b. b || member k t) (d k x)) (m k) (sym (member_fill k vs l) ∙ e)) in
    omega arith

deleted_others : (j : ℕ) (us : List Op) (k : ℕ) → deleted k (others j us) ≡ true → deleted k us ≡ true
deleted_others j [] k e = e
deleted_others j (u ∷ us) k e = go (mine j u) (deleted_others j us k) e
  where
    c : Bool
    c = three u && eqb k u.key

    go : (b : Bool) → (deleted k (others j us) ≡ true → deleted k us ≡ true) → deleted k (cond b (others j us) (u ∷ others j us)) ≡ true → c || deleted k us ≡ true
    go true ih e = ap (λ b. c || b) (ih e) ∙ or-true c
    go false ih e = or_cases c (deleted k (others j us)) (c || deleted k us) (λ x. ap (λ b. b || deleted k us) x) (λ x. ap (λ b. c || b) (ih x) ∙ or-true c) e

-- a recovery brings back a counted tile only
touch_counted : (p : Procedure) (f here m : Bool) → touch (recovery p f) here m ≡ true → (eqb (kind p f) 3 && here) || m ≡ true
touch_counted Ins false true m e = never (sym e)
touch_counted Ins false false m e = e
touch_counted Ins true here m e = e
touch_counted Del true here m e = e
touch_counted Del false here m e = e
touch_counted Mem true here m e = e
touch_counted Mem false here m e = e

undo_counted : (k : ℕ) (u : Op) (t : List ℕ) → member k (undo u t) ≡ true → (three u && eqb k u.key) || member k t ≡ true
undo_counted k u t e = touch_counted u.proc u.found (eqb k u.key) (member k t) (sym (member_apply (inverse u) k u.key t) ∙ e)

recover_counted : (j : ℕ) (us : List Op) (t : List ℕ) (k : ℕ) → member k (recover j us t) ≡ true → within us t k
recover_counted j [] t k e = e
recover_counted j (u ∷ us) t k e = or_assoc c (deleted k us) (member k t) ∙ go (mine j u) (recover_counted j us t k) e
  where
    c : Bool
    c = three u && eqb k u.key

    go : (b : Bool) → (member k (recover j us t) ≡ true → within us t k) → member k (cond b (undo u (recover j us t)) (recover j us t)) ≡ true
        → c || (deleted k us || member k t) ≡ true
    go true ih e =
        or_cases c (member k (recover j us t)) _ (λ x. ap (λ b. b || (deleted k us || member k t)) x) (λ x. ap (λ b. c || b) (ih x) ∙ or-true c)
        (undo_counted k u (recover j us t) e)
    go false ih e = ap (λ b. c || b) (ih e) ∙ or-true c

pub counted_commit : (j : ℕ) (t : List ℕ) (us : List Op) → Ascending t → length t + counted t (others j us) ≤ length t + counted t us
counted_commit j t us asc = fewer us (others j us) t t asc asc (deleted_others j us) (λ k m. ap (λ b. deleted k us || b) m ∙ or-true (deleted k us))

pub counted_abort : (j : ℕ) (t : List ℕ) (us : List Op) → Ascending t
    → length (recover j us t) + counted (recover j us t) (others j us) ≤ length t + counted t us
counted_abort j t us asc = fewer us (others j us) t (recover j us t) asc (recover_ascending j us t asc) (deleted_others j us) (recover_counted j us t)

-- A choice of unfinished operations to undo leaves tiles that are there or counted
back_counted : (q : Pick) (os : Log Op) (t : List ℕ) (k : ℕ) → member k (back (λ l o. not o.done && q l o) os t) ≡ true → within (unfinished os) t k
back_counted q empty t k e = e
back_counted q (os ▷ o) t k e = go o.done (q os o) (λ t. back_counted q os t k) e
  where
    p : Pick
    p = λ l o. not o.done && q l o

    c : Bool
    c = three o && eqb k o.key

    longer : (x : Bool) → deleted k (unfinished os) || x ≡ true → (x ≡ true → c || member k t ≡ true) → within (unfinished os ++ (o ∷ [])) t k
    longer x h f =
        ap (λ b. b || member k t) (deleted_last k (unfinished os) o) ∙ or_assoc (deleted k (unfinished os)) c (member k t)
        ∙ or_cases (deleted k (unfinished os)) x _ (λ y. ap (λ b. b || (c || member k t)) y) (λ y. ap (λ b. deleted k (unfinished os) || b) (f y) ∙ or-true (deleted k (unfinished os))) h

    go : (d b : Bool) → ((t : List ℕ) → member k (back p os t) ≡ true → within (unfinished os) t k)
        → member k (back p os (cond (not d && b) (undo o t) t)) ≡ true → within (cond d (unfinished os) (unfinished os ++ (o ∷ []))) t k
    go true b ih e = ih t e
    go false true ih e = longer (member k (undo o t)) (ih (undo o t) e) (undo_counted k o t)
    go false false ih e = longer (member k t) (ih t e) (λ m. ap (λ b. c || b) m ∙ or-true c)

pub counted_back : (q : Pick) (os : Log Op) (t : List ℕ) → Ascending t → Ascending (back (λ l o. not o.done && q l o) os t)
    → length (back (λ l o. not o.done && q l o) os t) ≤ length t + counted t (unfinished os)
counted_back q os t asc bsc = fits_within (unfinished os) t (back (λ l o. not o.done && q l o) os t) asc bsc (back_counted q os t)
