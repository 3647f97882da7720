-- The rows of a level, by either edition
use Rattle.std.specs.Prelude.{Bool, ◌&&◌, cond, false, true, ◌≢◌, ◌≡◌, refl, ◌-◌, ◌<◌, ◌^◌, ◌≤◌, ℕ, eqb, leb, ltb, negsuc, pos, ℤ}
use Rattle.std.proofs.Math.Option.{none, some}
use Rattle.std.proofs.Common.{◌∙◌, ap, sym, arith, pow_pos, eq-eqb, le-leb, leb-true, lt-ltb, ltb-true, ne_eqb}
use Rattle.lists.specs.Truth.{and_both, both, never}
use Rattle.grid.proofs.Laws.Keys.{has_key, turned_back, turned_inside}
use Rattle.grid.specs.Limits.{highest_zoom, lowest_zoom, south_edition}
use Rattle.grid.specs.Tile.{address_call, around, is_edition, key_at, key_of, north_row, pack_key, placed_at, turned_row, turns_in, unplaced_by}
use Rattle.grid.specs.declared.Address.{Address}

-- there is a level z, and it has this row
abbrev pub has_row : ℕ → ℤ → Bool
has_row z (negsuc y) = false
has_row z (pos y) = leb lowest_zoom z && leb z highest_zoom && ltb y (2 ^ z)

-- in words
pub record Row (z : ℕ) (y : ℤ) : Type 0 where
  pub low : lowest_zoom ≤ z
  pub high : z ≤ highest_zoom
  pub number : ℕ
  pub row_is : y ≡ pos number
  pub fits : number < 2 ^ z

pub row_there : (z : ℕ) (y : ℤ) → has_row z y ≡ true → Row z y
row_there z (negsuc y) e = never (sym e)
row_there z (pos y) e =
    let p = both _ _ e in
    let q = both _ _ p.0 in
    record { low = leb-true _ _ q.0; high = leb-true _ _ q.1; number = y; row_is = refl; fits = ltb-true _ _ p.1 }

pub there_row : (z : ℕ) (y : ℤ) → Row z y → has_row z y ≡ true
there_row z y r =
    ap (has_row z) r.row_is
    ∙ and_both (and_both (le-leb lowest_zoom z r.low) (le-leb z highest_zoom r.high)) (lt-ltb r.number (2 ^ z) r.fits)

-- a row that is there is there when it is turned
turned_there : (z : ℕ) (y : ℤ) → Row z y → Row z (turned_row z y)
turned_there z y r =
    let n = pow_pos z in
    record {
      low = r.low;
      high = r.high;
      number = 2 ^ z - 1 - r.number;
      row_is = ap (turned_row z) r.row_is ∙ turned_inside z r.number r.fits;
      fits = omega arith;
    }

pub north_there : (edition z : ℕ) (y : ℤ) → Row z y → Row z (north_row edition z y)
north_there edition z y r = go (eqb edition south_edition)
  where
    go : (b : Bool) → Row z (cond b (turned_row z y) y)
    go true = turned_there z y r
    go false = r

-- and else there is no key, by either edition
keyless : (z : ℕ) (c y : ℤ) → has_row z y ≡ false → key_at z c y ≡ none
keyless z c (negsuc y) e = refl
keyless z c (pos y) e = ap (λ b. cond b (some (pack_key z (around c (2 ^ z)) y)) none) e

still_none : (z : ℕ) (y : ℤ) → has_row z y ≡ false → has_row z (turned_row z y) ≡ false
still_none z y e = go (has_row z (turned_row z y)) refl
  where
    go : (b : Bool) → has_row z (turned_row z y) ≡ b → b ≡ false
    go false h = refl
    go true h =
        let back = there_row z (turned_row z (turned_row z y)) (turned_there z (turned_row z y) (row_there z (turned_row z y) h)) in
        sym back ∙ ap (has_row z) (turned_back z y) ∙ e

pub no_row : (edition z : ℕ) (c y : ℤ) → has_row z y ≡ false → key_at z c (north_row edition z y) ≡ none
no_row edition z c y e = go (eqb edition south_edition)
  where
    go : (b : Bool) → key_at z c (cond b (turned_row z y) y) ≡ none
    go true = keyless z c (turned_row z y) (still_none z y e)
    go false = keyless z c y e

-- a row as an edition counts it, from the north
pub row_turned : (edition z : ℕ) (y : ℤ) (r : Row z y) → edition ≡ south_edition → pos (2 ^ z - 1 - r.number) ≡ north_row edition z y
row_turned edition z y r e =
    sym (ap (λ b. cond b (turned_row z y) y) (eq-eqb edition south_edition e) ∙ ap (turned_row z) r.row_is ∙ turned_inside z r.number r.fits)

pub row_kept : (edition z : ℕ) (y : ℤ) (r : Row z y) → edition ≢ south_edition → pos r.number ≡ north_row edition z y
row_kept edition z y r d = sym (ap (λ b. cond b (turned_row z y) y) (ne_eqb edition south_edition d) ∙ r.row_is)

-- THE STEP, by its tests
module _ (a : Address) where
  abbrev north : ℤ
  north = north_row a.edition a.zoom a.row

  pub step_misnamed : is_edition a.edition ≡ false → unplaced_by 14 ≡ address_call a
  step_misnamed e = rw e

  module _ (known : is_edition a.edition ≡ true) where
    step_is : placed_at (key_at a.zoom a.column north) (turns_in a) ≡ address_call a
    unfolding key_of
    step_is = rw known

    pub step_rowless : has_row a.zoom a.row ≡ false → unplaced_by 5 ≡ address_call a
    step_rowless e = ap (λ o. placed_at o (turns_in a)) (sym (no_row a.edition a.zoom a.column a.row e)) ∙ step_is

    module _ (there : has_row a.zoom a.row ≡ true) (row : ℕ) (counted : pos row ≡ north) where
      abbrev level_row : Row a.zoom north
      level_row = north_there a.edition a.zoom a.row (row_there a.zoom a.row there)

      pub step_fits : (a.zoom ≤ highest_zoom) × (row < 2 ^ a.zoom)
      step_fits =
          let same : row ≡ level_row.number = let p : pos row ≡ pos level_row.number = counted ∙ level_row.row_is in cc in
          (level_row.high, (let f = level_row.fits in omega arith))

      pub step_placed : record { number = 0; key = pack_key a.zoom (around a.column (2 ^ a.zoom)) row; turns = turns_in a } ≡ address_call a
      step_placed =
          ap (λ o. placed_at o (turns_in a)) (sym (ap (key_at a.zoom a.column) (sym counted) ∙ has_key a.zoom a.column row level_row.low level_row.high step_fits.1))
          ∙ step_is
