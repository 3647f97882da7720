-- The levels of the map, the editions of a feed and the factors of a key, each said once
use Rattle.std.specs.Prelude.{ℕ}

-- the levels of the map
abbrev pub lowest_zoom : ℕ
lowest_zoom = 4

abbrev pub highest_zoom : ℕ
highest_zoom = 14

abbrev pub level_count : ℕ
level_count = 11

-- a key is zoom, column and row
abbrev pub zoom_factor : ℕ
zoom_factor = 268435456

abbrev pub column_factor : ℕ
column_factor = 16384

-- the editions of a feed: the first counts rows from the south, the second from the north
abbrev pub south_edition : ℕ
south_edition = 1

abbrev pub north_edition : ℕ
north_edition = 2
