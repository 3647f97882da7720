-- Ascending lists: their beginnings, their last element, and one more behind it
use mathlib.Core.List.{List, [], ◌++◌, ◌∷◌}
use mathlib.Core.Path.{◌≡◌, ap, subst}
use Prim.Native.Nat.{◌+◌, ◌-◌, ◌<◌, ◌≤◌, suc, zero, ℕ}
use native.Mathlib.Omega.{arith}
use native.Mathlib.Numerals.{add-one}
use lib.ListN.{drop, get_or, length, take}
use lib.Seq.{append_snoc, take-suc}
use Rattle.lists.specs.Lists.{All}
use Rattle.strict.proofs.Laws.Members.{above_ascending}
use Rattle.strict.specs.Tiles.{Above, Ascending}

pub behind : {x : ℕ} {u v : List ℕ} → u ≡ v → x ∷ u ≡ x ∷ v
behind {x} e = ap {B = List ℕ} (λ l. x ∷ l) e

-- BEGINNINGS AND ENDS
above_take : (n x : ℕ) (l : List ℕ) → Above x l → Above x (take n l)
above_take zero x l a = tt
above_take (suc n) x [] a = tt
above_take (suc n) x (y ∷ l) a = (a.0, above_take n y l a.1)

pub ascending_take : (n : ℕ) (l : List ℕ) → Ascending l → Ascending (take n l)
ascending_take zero l a = tt
ascending_take (suc n) [] a = tt
ascending_take (suc n) (x ∷ l) a = above_take n x l a

pub ascending_drop : (n : ℕ) (l : List ℕ) → Ascending l → Ascending (drop n l)
ascending_drop zero l a = a
ascending_drop (suc n) [] a = tt
ascending_drop (suc n) (x ∷ l) a = ascending_drop n l (above_ascending x l a)

-- the first n, and the last of them
pub take_last : (l : List ℕ) (n : ℕ) → 0 < n → n ≤ length l → take n l ≡ take (n - 1) l ++ (get_or l (n - 1) 0 ∷ [])
take_last l zero some fits = absurd (omega arith)
take_last l (suc n) some fits =
    let e : suc n - 1 ≡ n = omega arith in
    rw e (take-suc l n 0 fits)

-- THE LAST
abbrev pub Under : ℕ → List ℕ → Type 0
Under x l = All (λ y. y < x) l

last_above : (n x : ℕ) (l : List ℕ) → Above n (l ++ (x ∷ [])) → n < x
last_above n x [] a = a.0
last_above n x (y ∷ l) a = let h = last_above y x l a.1 in let g = a.0 in omega arith

pub under_last : (x : ℕ) (l : List ℕ) → Ascending (l ++ (x ∷ [])) → Under x l
under_last x [] a = tt
under_last x (y ∷ l) a = (last_above y x l a, under_last x l (above_ascending y (l ++ (x ∷ [])) a))

pub under_more : (x y : ℕ) (l : List ℕ) → x < y → Under x l → Under y l
under_more x y [] h u = tt
under_more x y (z ∷ l) h u = (let g = u.0 in omega arith, under_more x y l h u.1)

pub under_snoc : (x y : ℕ) (l : List ℕ) → Under y l → x < y → Under y (l ++ (x ∷ []))
under_snoc x y [] u h = (h, tt)
under_snoc x y (z ∷ l) u h = (u.0, under_snoc x y l u.1 h)

above_front : (n x : ℕ) (l : List ℕ) → Above n (l ++ (x ∷ [])) → Above n l
above_front n x [] a = tt
above_front n x (y ∷ l) a = (a.0, above_front y x l a.1)

pub ascending_front : (x : ℕ) (l : List ℕ) → Ascending (l ++ (x ∷ [])) → Ascending l
ascending_front x [] a = tt
ascending_front x (y ∷ l) a = above_front y x l a

-- ONE MORE
above_on : (n x y : ℕ) (l : List ℕ) → x < y → Above n (l ++ (x ∷ [])) → Above n (l ++ (x ∷ y ∷ []))
above_on n x y [] h a = (a.0, (h, tt))
above_on n x y (z ∷ l) h a = (a.0, above_on z x y l h a.1)

pub ascending_on : (x y : ℕ) (l : List ℕ) → x < y → Ascending (l ++ (x ∷ [])) → Ascending (l ++ (x ∷ y ∷ []))
ascending_on x y [] h a = (h, tt)
ascending_on x y (z ∷ l) h a = above_on z x y l h a

-- A RUN
pub run_more : (ks : List ℕ) (end : ℕ) → 0 < end → end < length ks → get_or ks (end - 1) 0 < get_or ks end 0 → Ascending (take end ks) → Ascending (take (end + 1) ks)
run_more ks end some inside rises asc =
    let last = take_last ks end some (omega arith) in
    rw (add-one, take-suc ks end 0 inside, last, append_snoc (take (end - 1) ks) (get_or ks (end - 1) 0) (get_or ks end 0 ∷ []))
    (ascending_on (get_or ks (end - 1) 0) (get_or ks end 0) (take (end - 1) ks) rises (subst Ascending last asc))
