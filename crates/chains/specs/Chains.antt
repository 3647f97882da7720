-- What one pass from the last entry to the first finds out of an entry
use Rattle.std.specs.Prelude.{Bool, ◌&&◌, ◌||◌, cond, not, List, [], ◌∷◌, ◌/◌, ℕ, eqb}
use Rattle.strict.specs.Tiles.{member}
use Rattle.service.specs.Entry.{job_in, key_in, kind_in}
use Rattle.service.specs.Sound.{as_left, changing}
use Rattle.filter.specs.Filter.{slot_of}

-- the slot of a tile, of 16,384
abbrev pub near_slot : ℕ → ℕ
near_slot key = slot_of key / 4

-- of what is asked of e, that changed its tile, the later entry f decides nothing: it is on another tile, or of e's job and changed nothing
abbrev pub passed : ℕ → ℕ → Bool
passed e f = not (eqb (key_in e) (key_in f)) || (eqb (job_in e) (job_in f) && not (changing (kind_in f)))

-- f goes on from e: it is of e's job, and of the other kind
abbrev pub linked : ℕ → ℕ → Bool
linked e f = eqb (job_in e) (job_in f) && not (eqb (kind_in e) (kind_in f))

-- what comes after e goes on from it: the first that decides does, and where there is none the tile is as e left it
abbrev pub followed : List ℕ → ℕ → List ℕ → Bool
followed t e [] = as_left (kind_in e) (member (key_in e) t)
followed t e (f ∷ fs) = cond (passed e f) (followed t e fs) (linked e f)
