-- Three jobs that end in two orders, by either rule
use Rattle.std.specs.Prelude.{false, List, [], ◌++◌, ◌∷◌, ◌≡◌, refl, ℕ, pos, replicate}
use Rattle.strict.specs.Commutativity.{entry_at}
use Rattle.strict.specs.declared.Procedure.TheVariants.{Ins, Mem}
use Rattle.strict.specs.declared.Rule.{Rule}
use Rattle.strict.specs.declared.Rule.TheVariants.{Alone, Together}
use Rattle.grid.specs.Levels.{levels_of}
use Rattle.grid.specs.Tile.{is_key, key_of}
use Rattle.service.specs.Calls.{concluded, start_call}
use Rattle.cases.specs.Seams.{A, Exchange, ◌↝◌, a, b, from, ok_A, ok_B, world_after}
use Rattle.service.specs.History.{opening, operating}
use Rattle.service.specs.Journal.{encode, rule_bytes}
use Rattle.service.specs.Sound.{sound_B, tabled_B}
use Rattle.service.specs.Told.{bare, done}
use Rattle.service.specs.World.{World, world}
use Rattle.ends.specs.Ends.{End, after, cancels, keeps}

-- job 1 put A; job 2 asked for B, that job 3 then put
abbrev asked : List Exchange
asked =
    opening 1 ↝ bare 0
    ∷ opening 2 ↝ bare 0
    ∷ opening 3 ↝ bare 0
    ∷ operating 1 0 Ins a ↝ ok_A
    ∷ operating 2 0 Mem b ↝ done false (pos 1)
    ∷ operating 3 0 Ins b ↝ ok_B
    ∷ []

abbrev running : Rule → World
running r = world_after (from r [] 2 3 66) asked

-- the bytes that they wrote
abbrev written : Rule → List ℕ
written r =
    rule_bytes r
    ++ (1 ∷ 0 ∷ 1 ∷ 1 ∷ 1 ∷ 0 ∷ 1 ∷ 2 ∷ 1 ∷ 0 ∷ 1 ∷ 3 ∷ [])
    ++ (6 ∷ 0 ∷ 9 ∷ 1 ∷ 1 ∷ 1 ∷ 64 ∷ 3 ∷ 192 ∷ 5 ∷ 0 ∷ 0 ∷ [])
    ++ (6 ∷ 0 ∷ 9 ∷ 2 ∷ 3 ∷ 0 ∷ 64 ∷ 0 ∷ 0 ∷ 0 ∷ 0 ∷ 0 ∷ [])
    ++ (6 ∷ 0 ∷ 9 ∷ 3 ∷ 1 ∷ 1 ∷ 64 ∷ 0 ∷ 0 ∷ 0 ∷ 0 ∷ 0 ∷ [])

-- job 1 is kept, 2 and 3 are cancelled, in this order and in the other
abbrev one_way : List End
one_way = keeps 1 ∷ cancels 2 ∷ cancels 3 ∷ []

abbrev other_way : List End
other_way = cancels 3 ∷ keeps 1 ∷ cancels 2 ∷ []

-- A alone is left, with so many used bytes: those written, these ends, and zeros
abbrev left : Rule → ℕ → List ℕ → List ℕ → World
left r used ends zeros =
    world (record { rule = r; marks = replicate 64 false; tiles = 1; operations = 0; journal = used; levels = 1 ∷ replicate 10 0; spoken = 0 })
    (A ∷ 0 ∷ []) (0 ∷ 0 ∷ 0 ∷ []) (written r ++ ends ++ zeros)

pub ends_cases : after (running Alone) one_way ∷ after (running Alone) other_way ∷ after (running Together) one_way ∷ after (running Together) other_way ∷ []
    ≡ left Alone 60 (3 ∷ 0 ∷ 1 ∷ 1 ∷ 4 ∷ 0 ∷ 1 ∷ 2 ∷ 4 ∷ 0 ∷ 1 ∷ 3 ∷ []) (replicate 6 0)
    ∷ left Alone 60 (4 ∷ 0 ∷ 1 ∷ 3 ∷ 3 ∷ 0 ∷ 1 ∷ 1 ∷ 4 ∷ 0 ∷ 1 ∷ 2 ∷ []) (replicate 6 0)
    ∷ left Together 64 (3 ∷ 0 ∷ 1 ∷ 1 ∷ 4 ∷ 0 ∷ 1 ∷ 2 ∷ 4 ∷ 0 ∷ 1 ∷ 3 ∷ []) (replicate 2 0)
    ∷ left Together 64 (4 ∷ 0 ∷ 1 ∷ 3 ∷ 3 ∷ 0 ∷ 1 ∷ 1 ∷ 4 ∷ 0 ∷ 1 ∷ 2 ∷ []) (replicate 2 0)
    ∷ []
unfolding key_of is_key tabled_B sound_B start_call concluded encode entry_at levels_of
ends_cases = refl
