-- A list of keys put in or taken out one after another, and what the passes that do it at once come to
use Rattle.std.specs.Prelude.{List, [], ◌∷◌, ◌≡◌, ◌<◌, ◌≤◌, ℕ, drop, length, take}
use Rattle.strict.specs.Operations.{Step, apply}
use Rattle.strict.specs.Tiles.{Ascending}

-- a step on each key in turn
abbrev pub apply_all : Step → List ℕ → List ℕ → List ℕ
apply_all a [] t = t
apply_all a (k ∷ ks) t = apply_all a ks (apply a k t)

-- the first `to` keys ascend
pub record Run (ks : List ℕ) (to : ℕ) : Type 0 where
  pub some : 0 < to
  pub within : to ≤ length ks
  pub ascends : Ascending (take to ks)

-- `left` tiles are kept, in front of t', and behind `count` nothing has moved
pub record Kept (kept t : List ℕ) (count : ℕ) (t' : List ℕ) (left : ℕ) : Type 0 where
  pub left_fits : left ≤ count
  pub counted : left ≡ length kept
  pub in_front : take left t' ≡ kept
  pub same_behind : drop count t' ≡ drop count t
