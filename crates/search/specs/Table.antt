-- A tile table, a list of numbers of which the first `count` are used, and the place of a key in it
use Rattle.std.specs.Prelude.{cond, List, [], ◌∷◌, ◌≡◌, ◌≤◌, suc, ℕ, ltb, length, take}
use Rattle.lists.specs.Lists.{padded}
use Rattle.strict.specs.Tiles.{Ascending}

-- used places ascend, and 0 stands behind them
pub record TileTable (l : List ℕ) (count : ℕ) : Type 0 where
  pub fits : count ≤ length l
  pub ascending : Ascending (take count l)
  pub zeros_behind : l ≡ padded (length l) (take count l)

-- the index of the first element that is not below k, or the length
abbrev pub position_of : ℕ → List ℕ → ℕ
position_of k [] = 0
position_of k (x ∷ xs) = cond (ltb x k) (suc (position_of k xs)) 0
