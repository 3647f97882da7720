-- The number that is told, exactly: the first that applies. The numbers of a list differ; they need not rise
use Rattle.std.specs.Prelude.{Result, Ok, Err, is_ok, Bool, ◌||◌, cond, false, true, List, [], ◌++◌, ◌∷◌, map, ◌↔◌, ◌≢◌, ◌≡◌, refl, ℕ, eqb}
use Rattle.std.proofs.Math.Option.{Option, none, some}
use Rattle.std.proofs.Common.{◌∙◌, ap, sym, arith}
use Rattle.lists.specs.Lists.{All}
use Rattle.lists.specs.Truth.{both_false, never, or_left, or_right}
use Rattle.strict.specs.Commutativity.{Signature}
use Rattle.strict.specs.Tiles.{member}
use Rattle.service.specs.Told.{Refusal, decided, refuse_held, refused, told, told_held}
use Rattle.service.specs.declared.Done.{Done}
use Rattle.service.specs.declared.Reason.TheVariants.{AlreadyOpen, Held, Misshapen, NoEdition, NoJournalRoom, NoOperationRoom, NoSuchJob, NoTileRoom, NotOpen, NotSound, OutOfRange}
use Rattle.service.specs.declared.Reason.{Reason}
use Rattle.service.specs.declared.Told.{Told}

-- refusals that do not apply
abbrev pub Passed : List Refusal → Type 0
Passed rs = All (λ r. r.applies ≡ false) rs

pub unrefused : (rs : List Refusal) → refused rs ≡ false → Passed rs
unrefused [] e = tt
unrefused (r ∷ rs) e = (or_left r.applies (refused rs) e, unrefused rs (or_right r.applies (refused rs) e))

pub none_applies : (rs : List Refusal) → Passed rs → refused rs ≡ false
none_applies [] h = refl
none_applies (r ∷ rs) h = both_false h.0 (none_applies rs h.1)

-- A REPLY is done just where it is told by 0
pub done_zero : (r : Result Done Reason) → is_ok r ≡ eqb (told r).number 0
done_zero (Ok d) = refl
done_zero (Err NotSound) = refl
done_zero (Err NoSuchJob) = refl
done_zero (Err NotOpen) = refl
done_zero (Err AlreadyOpen) = refl
done_zero (Err OutOfRange) = refl
done_zero (Err (Held job sheet)) = refl
done_zero (Err NoTileRoom) = refl
done_zero (Err NoOperationRoom) = refl
done_zero (Err NoJournalRoom) = refl
done_zero (Err Misshapen) = refl
done_zero (Err NoEdition) = refl

-- THE HOLDER
pub not_held : (o : Option Signature) → (refuse_held o).applies ≡ false → o ≡ none
not_held none e = refl
not_held (some j) e = never e

pub held_six : (o : Option Signature) → (refuse_held o).says.number ≡ 6
held_six none = refl
held_six (some j) = refl

pub some_not_none : {A : Type 0} (i : A) → some i ≡ none → ⊥
some_not_none i e = let z : ◌≡◌ {A = ℕ} 0 1 = cc in omega arith

pub found_is : (o : Option Signature) → ((refuse_held o).applies ≡ true) ↔ (o ≢ none)
found_is none = (λ e. never (sym e), λ f. absurd (f refl))
found_is (some j) = (λ e. some_not_none j, λ f. refl)

pub holder_told : (o : Option Signature) (by : Signature) → (refuse_held o).applies ≡ true → (refuse_held o).says ≡ told_held by → o ≡ some by
holder_told none by a e = never (sym a)
holder_told (some j) by a e = ap (λ (t : Told). some (record { job = t.holder; sheet = t.sheet })) e

-- THE NUMBERS OF A LIST
abbrev pub numbers : List Refusal → List ℕ
numbers rs = map (λ r. r.says.number) rs

-- NO REFUSAL
-- every refusal has a number other than 0
abbrev pub Numbered : Refusal → Type 0
Numbered r = eqb r.says.number 0 ≡ false

pub held_numbered : (o : Option Signature) → Numbered (refuse_held o)
held_numbered none = refl
held_numbered (some j) = refl

pub decided_done : (rs : List Refusal) (t : Told) → All Numbered rs → (decided rs t).number ≡ 0 → refused rs ≡ false
decided_done [] t n e = refl
decided_done (r ∷ rs) t n e = go r.applies e (decided_done rs t n.1)
  where
    go : (b : Bool) → (cond b r.says (decided rs t)).number ≡ 0 → ((decided rs t).number ≡ 0 → refused rs ≡ false) → b || refused rs ≡ false
    go true h ih = never (ap (λ x. eqb x 0) (sym h) ∙ n.0)
    go false h ih = ih h

pub decided_none : (rs : List Refusal) (t : Told) → refused rs ≡ false → decided rs t ≡ t
decided_none [] t e = refl
decided_none (r ∷ rs) t e = go r.applies e (decided_none rs t)
  where
    go : (b : Bool) → b || refused rs ≡ false → (refused rs ≡ false → decided rs t ≡ t) → cond b r.says (decided rs t) ≡ t
    go true h ih = never h
    go false h ih = ih h

-- 0 just where none applies
pub told_zero : (rs : List Refusal) (t : Told) → All Numbered rs → t.number ≡ 0 → ((decided rs t).number ≡ 0) ↔ Passed rs
told_zero rs t n z = (
  λ e. unrefused rs (decided_done rs t n e),
  λ h. ap (λ (x : Told). x.number) (decided_none rs t (none_applies rs h)) ∙ z,
)

-- and else a number of the list
pub decided_among : (ns : List ℕ) (rs : List Refusal) (t : Told) → All (λ x. member x.says.number ns ≡ true) rs → t.number ≡ 0 → (decided rs t).number ≢ 0
    → member (decided rs t).number ns ≡ true
decided_among ns [] t h z f = absurd (f z)
decided_among ns (x ∷ rs) t h z f = go x.applies f (decided_among ns rs t h.1 z)
  where
    go : (b : Bool) → (cond b x.says (decided rs t)).number ≢ 0 → ((decided rs t).number ≢ 0 → member (decided rs t).number ns ≡ true)
        → member (cond b x.says (decided rs t)).number ns ≡ true
    go true d ih = h.0
    go false d ih = ih d

-- THE FIRST THAT APPLIES

abbrev pub Others : ℕ → List Refusal → Type 0
Others n rs = All (λ r. r.says.number ≢ n) rs

not_told : (n : ℕ) (rs : List Refusal) (t : Told) → Others n rs → t.number ≢ n → (decided rs t).number ≢ n
not_told n [] t h d = d
not_told n (r ∷ rs) t h d = go r.applies (not_told n rs t h.1 d)
  where
    go : (b : Bool) → (decided rs t).number ≢ n → (cond b r.says (decided rs t)).number ≢ n
    go true i = h.0
    go false i = i

pub told_exactly : (n : ℕ) (xs : List Refusal) (x : Refusal) (ys : List Refusal) (t : Told) → Others n xs → x.says.number ≡ n → Others n ys → t.number ≢ n
    → ((decided (xs ++ (x ∷ ys)) t).number ≡ n) ↔ (Passed xs × (x.applies ≡ true))
told_exactly n [] x ys t a e b d = go x.applies
  where
    go : (c : Bool) → ((cond c x.says (decided ys t)).number ≡ n) ↔ (Unit {0} × (c ≡ true))
    go true = (λ h. (tt, refl), λ h. e)
    go false = (λ h. absurd (not_told n ys t b d h), λ h. never (sym h.1))
told_exactly n (y ∷ xs) x ys t a e b d = go y.applies (told_exactly n xs x ys t a.1 e b d)
  where
    go : (c : Bool) → ((decided (xs ++ (x ∷ ys)) t).number ≡ n) ↔ (Passed xs × (x.applies ≡ true))
        → ((cond c y.says (decided (xs ++ (x ∷ ys)) t)).number ≡ n) ↔ (((c ≡ false) × Passed xs) × (x.applies ≡ true))
    go true ih = (λ h. absurd (a.0 h), λ h. never h.0.0)
    go false ih = (λ h. let i = ih.0 h in ((refl, i.0), i.1), λ h. ih.1 (h.0.1, h.1))

-- and then all that it says is told
pub told_whole : (xs : List Refusal) (x : Refusal) (ys : List Refusal) (t : Told) → Passed xs → x.applies ≡ true → decided (xs ++ (x ∷ ys)) t ≡ x.says
told_whole [] x ys t h a = rw a
told_whole (y ∷ xs) x ys t h a = rw h.0 (told_whole xs x ys t h.1 a)
