-- Rectangles by hand: what is told and what is left, one statement over one table
use Rattle.std.specs.Prelude.{false, true, List, [], ◌∷◌, map, ◌≡◌, refl, ℕ, negsuc, pos, ℤ}
use Rattle.strict.specs.Commutativity.{entry_at}
use Rattle.strict.specs.declared.Procedure.TheVariants.{Ins}
use Rattle.strict.specs.declared.Rule.TheVariants.{Alone, Together}
use Rattle.strict.specs.declared.Rule.{Rule}
use Rattle.grid.specs.Levels.{levels_of}
use Rattle.grid.specs.Tile.{column_in, is_key, key_of, row_in}
use Rattle.service.specs.Calls.{concluded, start_call}
use Rattle.cases.specs.Seams.{address, from, held_by1, ok_A, ok_B}
use Rattle.service.specs.History.{aborting, committing, opening, operating}
use Rattle.service.specs.Journal.{encode}
use Rattle.service.specs.Sound.{sound_B, tabled_B}
use Rattle.service.specs.Told.{bare}
use Rattle.service.specs.World.{World, used_tiles}
use Rattle.service.specs.declared.Told.{Told}
use Rattle.rectangles.specs.Claims.{Move, moved, plain, rectangle}
use Rattle.rectangles.specs.Rectangles.{keys, listed, misnamed, misshapen, out_of_range, rectangle_call}
use Rattle.rectangles.specs.declared.Change.TheVariants.{Delete, Insert}
use Rattle.rectangles.specs.declared.Rectangle.{Rectangle}

-- by an edition, and with rows counted from the north
abbrev rect_of : ℕ → ℕ → ℤ → ℤ → ℤ → ℤ → Rectangle
rect_of edition z west east top bottom = record { edition = edition; zoom = z; west = west; east = east; top = top; bottom = bottom }

abbrev rect : ℕ → ℤ → ℤ → ℤ → ℤ → Rectangle
rect = rect_of 2

-- across 180 degrees: columns 14, 15, 0 and 1 of level 4, rows 5 and 6
seam_list : map (λ k. column_in k ∷ row_in k ∷ []) (keys (listed (rect 4 (negsuc 1) (pos 1) (pos 5) (pos 6))))
    ≡ (14 ∷ 5 ∷ []) ∷ (14 ∷ 6 ∷ []) ∷ (15 ∷ 5 ∷ []) ∷ (15 ∷ 6 ∷ []) ∷ (0 ∷ 5 ∷ []) ∷ (0 ∷ 6 ∷ []) ∷ (1 ∷ 5 ∷ []) ∷ (1 ∷ 6 ∷ []) ∷ []
unfolding key_of
seam_list = refl

-- and the same list by edition 1, whose top row is the larger one
south_list : keys (listed (rect_of 1 4 (negsuc 1) (pos 1) (pos 10) (pos 9))) ≡ keys (listed (rect 4 (negsuc 1) (pos 1) (pos 5) (pos 6)))
unfolding key_of
south_list = refl

-- 14, 5 and 13 by edition 1: the whole level, its rows the wrong way round, one row too far, the least row; and by no edition
south_shapes : map (λ r. misnamed r ∷ out_of_range r ∷ misshapen r ∷ [])
    (rect_of 1 4 (pos 0) (pos 15) (pos 15) (pos 0)
    ∷ rect_of 1 4 (pos 0) (pos 15) (pos 0) (pos 15)
    ∷ rect_of 1 4 (pos 0) (pos 0) (pos 16) (pos 0)
    ∷ rect_of 1 4 (pos 0) (pos 0) (pos 0) (negsuc 2147483647)
    ∷ rect_of 0 4 (pos 0) (pos 0) (pos 0) (pos 0)
    ∷ [])
    ≡ (false ∷ false ∷ false ∷ [])
    ∷ (false ∷ false ∷ true ∷ [])
    ∷ (false ∷ true ∷ false ∷ [])
    ∷ (false ∷ true ∷ true ∷ [])
    ∷ (true ∷ true ∷ false ∷ [])
    ∷ []
unfolding key_of
south_shapes = refl

-- 5 and 13, at both sides of each bound
shapes : map (λ r. out_of_range r ∷ misshapen r ∷ [])
    (rect 4 (pos 0) (pos 15) (pos 0) (pos 15)
    ∷ rect 4 (pos 0) (pos 16) (pos 0) (pos 0)
    ∷ rect 9 (negsuc 127) (pos 127) (pos 3) (pos 3)
    ∷ rect 9 (negsuc 127) (pos 128) (pos 3) (pos 3)
    ∷ rect 4 (pos 1) (pos 0) (pos 0) (pos 0)
    ∷ rect 4 (pos 0) (pos 0) (pos 1) (pos 0)
    ∷ rect 4 (pos 0) (pos 0) (pos 0) (pos 16)
    ∷ rect 4 (pos 0) (pos 0) (negsuc 0) (pos 0)
    ∷ rect 3 (pos 0) (pos 0) (pos 0) (pos 0)
    ∷ rect 14 (negsuc 2147483647) (pos 2147483647) (pos 0) (pos 0)
    ∷ [])
    ≡ (false ∷ false ∷ [])
    ∷ (false ∷ true ∷ [])
    ∷ (false ∷ false ∷ [])
    ∷ (false ∷ true ∷ [])
    ∷ (false ∷ true ∷ [])
    ∷ (false ∷ true ∷ [])
    ∷ (true ∷ false ∷ [])
    ∷ (true ∷ false ∷ [])
    ∷ (true ∷ false ∷ [])
    ∷ (false ∷ true ∷ [])
    ∷ []
unfolding key_of
shapes = refl

-- PLAYED: by a rule, from tiles in so many places, with so many operation places and journal bytes; what is asked and heard, and the tiles left
pub record Play : Type 0 where
  pub by : Rule
  pub tiles : List ℕ
  pub places : ℕ
  pub slots : ℕ
  pub bytes : ℕ
  pub asked : List Move
  pub heard : List Told
  pub left : List ℕ

abbrev play : Rule → List ℕ → ℕ → ℕ → ℕ → List Move → List Told → List ℕ → Play
play by tiles places slots bytes asked heard left =
    record { by = by; tiles = tiles; places = places; slots = slots; bytes = bytes; asked = asked; heard = heard; left = left }

abbrev told_by : World → List Move → List Told
told_by w [] = []
told_by w (m ∷ ms) = (moved w m).told ∷ told_by (moved w m).after ms

abbrev world_after : World → List Move → World
world_after w [] = w
world_after w (m ∷ ms) = world_after (moved w m).after ms

-- columns 15 and 0 of level 4, row 5: the tiles across the seam; and another tile, C
abbrev seam : Rectangle
seam = rect 4 (negsuc 0) (pos 0) (pos 5) (pos 5)

abbrev A : ℕ
A = 1073987589

abbrev B : ℕ
B = 1073741829

abbrev C : ℕ
C = 1073741824

abbrev opens : List Move
opens = plain (opening 1) ∷ plain (opening 2) ∷ []

-- 0, of a rectangle with these turns
abbrev covering : ℤ → ℤ → Told
covering first last = record { number = 0; answer = 0; holder = 0; sheet = 0; turns = first; last = last }

-- a rectangle from turn -1 to turn 0, as the seam is
abbrev whole : Told
whole = covering (negsuc 0) (pos 0)

abbrev insert_A : ℕ → Move
insert_A job = plain (operating job 0 Ins (address 4 (negsuc 0) (pos 5)))

abbrev insert_B : ℕ → Move
insert_B job = plain (operating job 0 Ins (address 4 (pos 16) (pos 5)))

abbrev insert_C : ℕ → Move
insert_C job = plain (operating job 0 Ins (address 4 (pos 16) (pos 0)))

-- where each operation fails alone
abbrev plays : List Play
plays =
    play Alone [] 8 8 99 (rectangle 1 0 Insert seam ∷ rectangle 1 0 Insert seam ∷ []) (whole ∷ held_by1 ∷ []) (B ∷ A ∷ [])
    ∷ play Alone [] 8 8 99 (rectangle 1 0 Insert seam ∷ plain (aborting 1) ∷ []) (whole ∷ bare 0 ∷ []) []
    ∷ play Alone [] 8 8 99 (insert_B 1 ∷ rectangle 2 0 Delete seam ∷ []) (ok_B ∷ held_by1 ∷ []) (B ∷ [])
    ∷ play Alone [] 8 8 99 (rectangle 3 0 Insert seam ∷ rectangle 64 0 Insert seam ∷ []) (bare 3 ∷ bare 2 ∷ []) []
    ∷ play Alone [] 1 8 99 (rectangle 1 0 Insert seam ∷ rectangle 1 0 Delete seam ∷ []) (bare 7 ∷ whole ∷ []) []
    ∷ play Alone [] 2 1 99 (rectangle 1 0 Insert seam ∷ []) (bare 8 ∷ []) []
    ∷ play Alone [] 2 2 39 (rectangle 1 0 Insert seam ∷ []) (bare 9 ∷ []) []
    ∷ play Alone [] 2 2 40 (rectangle 1 0 Insert seam ∷ []) (whole ∷ []) (B ∷ A ∷ [])
    ∷ play Alone [] 1 1 39 (rectangle 1 0 Insert seam ∷ rectangle 1 0 Delete seam ∷ []) (bare 7 ∷ bare 8 ∷ []) []
    ∷ play Alone (B ∷ A ∷ []) 2 8 99 (rectangle 1 0 Delete seam ∷ rectangle 1 0 Insert seam ∷ []) (whole ∷ held_by1 ∷ []) []
    ∷ play Alone [] 8 8 99 (insert_A 1 ∷ insert_B 2 ∷ rectangle 2 0 Delete seam ∷ []) (ok_A ∷ ok_B ∷ held_by1 ∷ []) (B ∷ A ∷ [])
    ∷ play Alone [] 8 8 99 (rectangle 1 0 Insert (rect 4 (pos 1) (pos 0) (pos 0) (pos 16)) ∷ rectangle 1 0 Insert (rect 4 (pos 1) (pos 0) (pos 0) (pos 0)) ∷ []) (bare 5 ∷ bare 13 ∷ []) []
    ∷ play Alone [] 8 8 99 (rectangle 1 0 Insert (rect 4 (pos 70015) (pos 70016) (pos 0) (pos 0)) ∷ []) (covering (pos 4375) (pos 4376) ∷ []) (C ∷ 1073987584 ∷ [])
    ∷ play Alone [] 8 8 99 (rectangle 1 0 Insert (rect_of 3 3 (pos 1) (pos 0) (pos 0) (pos 0)) ∷ rectangle 1 0 Insert (rect_of 1 4 (pos 0) (pos 0) (pos 9) (pos 10)) ∷ []) (bare 14 ∷ bare 13 ∷ []) []
    ∷ play Alone [] 8 8 99 (rectangle 1 0 Insert (rect_of 1 4 (negsuc 0) (pos 0) (pos 10) (pos 10)) ∷ rectangle 2 0 Delete seam ∷ []) (whole ∷ held_by1 ∷ []) (B ∷ A ∷ [])
    ∷ play Alone [] 8 8 99 (rectangle 1 0 Delete (rect 4 (negsuc 16) (negsuc 15) (pos 0) (pos 0)) ∷ []) (covering (negsuc 1) (negsuc 0) ∷ []) []
    ∷ []

-- where a job fails as one: it may change its own tiles again, and needs no further place for those that it deleted; the abort brings them back;
-- another job is held; the absent tiles that were deleted are counted once each, so that C finds no place, and after the commit it does
abbrev own_plays : List Play
own_plays =
    play Together (B ∷ A ∷ []) 2 8 99 (rectangle 1 0 Delete seam ∷ rectangle 1 0 Insert seam ∷ []) (whole ∷ whole ∷ []) (B ∷ A ∷ [])
    ∷ play Together (B ∷ A ∷ []) 2 8 99 (rectangle 1 0 Delete seam ∷ rectangle 1 0 Insert seam ∷ plain (aborting 1) ∷ []) (whole ∷ whole ∷ bare 0 ∷ []) (B ∷ A ∷ [])
    ∷ play Together [] 8 8 99 (rectangle 1 0 Insert seam ∷ rectangle 1 0 Delete seam ∷ rectangle 2 0 Insert seam ∷ []) (whole ∷ whole ∷ held_by1 ∷ []) []
    ∷ play Together [] 8 8 99 (insert_B 1 ∷ rectangle 2 0 Delete seam ∷ []) (ok_B ∷ held_by1 ∷ []) (B ∷ [])
    ∷ play Together (A ∷ []) 1 8 99 (rectangle 1 0 Delete seam ∷ rectangle 1 0 Insert seam ∷ []) (whole ∷ bare 7 ∷ []) []
    ∷ play Together (B ∷ A ∷ []) 2 8 99 (rectangle 1 0 Delete seam ∷ insert_C 2 ∷ plain (committing 1) ∷ insert_C 2 ∷ []) (whole ∷ bare 7 ∷ bare 0 ∷ ok_B ∷ []) (C ∷ [])
    ∷ []

abbrev played : Play → Play
played x =
    let w = world_after (from x.by x.tiles x.places x.slots x.bytes) opens in
    play x.by x.tiles x.places x.slots x.bytes x.asked (told_by w x.asked) (used_tiles (world_after w x.asked))

pub plays_hold : map played plays ≡ plays
unfolding key_of is_key tabled_B sound_B start_call concluded encode entry_at rectangle_call levels_of
plays_hold = refl

pub own_plays_lem : map played own_plays ≡ own_plays
unfolding key_of is_key tabled_B sound_B start_call concluded encode entry_at rectangle_call levels_of
own_plays_lem = refl
