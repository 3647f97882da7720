-- The parts of service's test of soundness that look at lengths and counts
use Rattle.std.specs.Prelude.{Bool, List, [], ◌∷◌, map, ◌+◌, ℕ, eqb, leb, length}
use Rattle.lists.specs.Lists.{same_numbers}
use Rattle.strict.specs.Book.{spoken_by}
use Rattle.grid.specs.Levels.{levels_of}
use Rattle.service.specs.Entry.{op_in}
use Rattle.service.specs.declared.Session.{Session}

-- the lengths within their limits, and the counts within the lengths
abbrev pub count_tests : ℕ → ℕ → List ℕ → List ℕ → List Bool
count_tests count used tiles operations =
    leb 1 (length tiles)
    ∷ leb (length tiles) 4096
    ∷ leb 1 (length operations)
    ∷ leb (length operations) 1024
    ∷ leb count (length tiles)
    ∷ leb used (length operations)
    ∷ []

-- room in so many places for what is spoken for, and the counts that are kept
abbrev pub fresh_tests : Session → List ℕ → List ℕ → ℕ → List Bool
fresh_tests s keys entries places =
    leb (length keys + spoken_by s.rule keys (map op_in entries)) places
    ∷ same_numbers s.levels (levels_of keys)
    ∷ eqb s.spoken (spoken_by s.rule keys (map op_in entries))
    ∷ []
