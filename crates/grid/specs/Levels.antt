-- The tiles of each level, counted
use Rattle.std.specs.Prelude.{Bool, ◌&&◌, List, [], ◌∷◌, ◌+◌, ◌-◌, suc, zero, ℕ, eqb, leb}
use Rattle.lists.specs.Truth.{one_if}
use Rattle.grid.specs.Limits.{highest_zoom, level_count, lowest_zoom}
use Rattle.grid.specs.Tile.{zoom_in}

-- how many of the tiles have that zoom
abbrev pub tiles_at : ℕ → List ℕ → ℕ
tiles_at zoom [] = 0
tiles_at zoom (k ∷ ks) = one_if (eqb (zoom_in k) zoom) + tiles_at zoom ks

-- the same of n zooms, from the first on
abbrev pub levels_from : ℕ → ℕ → List ℕ → List ℕ
levels_from first zero t = []
levels_from first (suc n) t = tiles_at first t ∷ levels_from (suc first) n t

-- and of the eleven levels
unfoldable pub levels_of : List ℕ → List ℕ
levels_of t = levels_from lowest_zoom level_count t

-- where the count of a key's level stands
abbrev pub level_place : ℕ → ℕ
level_place k = zoom_in k - lowest_zoom

abbrev pub total : List ℕ → ℕ
total [] = 0
total (n ∷ ns) = n + total ns

abbrev pub is_zoom : ℕ → Bool
is_zoom zoom = leb lowest_zoom zoom && leb zoom highest_zoom
