-- The tiles of a rectangle that 14, 5 and 13 do not refuse
use Rattle.std.specs.Prelude.{Bool, false, true, ◌↔◌, ◌≢◌, ◌≡◌, refl, ◌%◌, ◌*◌, ◌+◌, ◌-◌, ◌/◌, ◌<◌, ◌^◌, ◌≤◌, suc, ℕ, eqb, ltb, ◌+ℤ◌, pos, ℤ}
use Rattle.std.proofs.Math.Bool.{not}
use Rattle.std.proofs.Common.{inl, inr, ◌∙◌, ap₂, subst, sym, div-add-mod', div-lt_iff_lt-mul, mod-eq_of_lt, mod-lt, mul-le-mul_right, suc-mul, arith, pow_pos, eqb-true, ltb-false, ltb-true}
use Rattle.std.proofs.Math.Option.{Option, some}
use Rattle.std.proofs.Math.Path.{ap}
use Rattle.std.proofs.Math.Nat.{div-eq_of_lt, mul-add-div_right, mul-add-mod_self_right}
use Rattle.std.proofs.lemmas.Bool.{eqb-false, not-false}
use Rattle.lists.specs.Truth.{Same, or_left, or_right, other, same, same?}
use Rattle.strict.specs.Tiles.{member}
use Rattle.grid.proofs.Addresses.{one_key}
use Rattle.grid.proofs.Laws.Keys.{has_key, keyed_at, keyed_edition, step_key, valid_key}
use Rattle.grid.specs.Tile.{address_call, around, is_key, key_at, key_of, north_row, pack_key, placed_at, turns_in}
use Rattle.grid.specs.declared.Address.{Address}
use Rattle.rectangles.specs.Claims.{Apart, Before, Inside, Shaped}
use Rattle.rectangles.specs.Fitting.{Placed}
use Rattle.rectangles.proofs.Laws.Listing.{all_sequence, apart_sequence, around_add, columns_apart, further, map_sequence, member_sequence, sequence_member, span_within, within_span}
use Rattle.rectangles.specs.Rectangles.{area, bottom_row, first_corner, height, key_for, keys, last_corner, listed, sequence, span, tile_at, top_row, unplaced, width}
use Rattle.rectangles.specs.declared.Rectangle.{Rectangle}

-- an address that the step does not refuse has a key
pub placed_key : (a : Address) → unplaced a ≡ false → key_of a ≡ some (key_for a)
placed_key a e =
    let number : (address_call a).number ≡ 0 = eqb-true _ 0 (not-false _ e) in
    step_key a (ap (λ n. eqb n 14) number) (ap (λ n. eqb n 5) number)

-- and its row, counted from the north, is in its range
pub placed_row : (a : Address) → unplaced a ≡ false → key_at a.zoom a.column (north_row a.edition a.zoom a.row) ≡ some (key_for a)
placed_row a e = (keyed_edition a (key_for a) (placed_key a e)).1

-- the rectangle in numbers
pub record Extent (r : Rectangle) : Type 0 where
  pub low : 4 ≤ r.zoom
  pub high : r.zoom ≤ 14
  pub north : ℕ
  pub south : ℕ
  pub north_is : top_row r ≡ pos north
  pub south_is : bottom_row r ≡ pos south
  pub south_fits : south < 2 ^ r.zoom
  pub wide : 0 < width r
  pub tall : 0 < height r
  pub once_round : width r ≤ 2 ^ r.zoom

not_zero : (n : ℕ) → eqb n 0 ≡ false → 0 < n
not_zero n e = let d : n ≢ 0 = eqb-false n 0 e in omega arith

pub extent : (r : Rectangle) → Shaped r → Extent r
extent r s =
    let first = first_corner r in
    let last = last_corner r in
    let a = keyed_at r.zoom r.west (top_row r) (key_for first) (placed_row first (or_left (unplaced first) (unplaced last) s.in_range)) in
    let b = keyed_at r.zoom r.east (bottom_row r) (key_for last) (placed_row last (or_right (unplaced first) (unplaced last) s.in_range)) in
    let x = or_right (eqb (width r) 0) _ s.well_formed in
    let y = or_right (eqb (height r) 0) _ x in
    record {
      low = a.low;
      high = a.high;
      north = a.row;
      south = b.row;
      north_is = a.row_is;
      south_is = b.row_is;
      south_fits = b.row_fits;
      wide = not_zero (width r) (or_left (eqb (width r) 0) _ s.well_formed);
      tall = not_zero (height r) (or_left (eqb (height r) 0) _ x);
      once_round = ltb-false _ _ (or_left (ltb (2 ^ r.zoom) (width r)) _ y);
    }

module _ (r : Rectangle) (s : Shaped r) where
  abbrev e : Extent r
  e = extent r s

  height_is : height r ≡ suc e.south - e.north
  height_is = ap₂ span e.north_is e.south_is

  abbrev column_of : ℕ → ℤ
  column_of i = r.west +ℤ pos (i / height r)

  column_in_lem : (i : ℕ) → i < area r → i / height r < width r
  column_in_lem i l = (div-lt_iff_lt-mul e.tall).1 l

  row_in : (i : ℕ) → i % height r < height r
  row_in i = mod-lt i e.tall

  -- the key of tile i
  tile_key : (i : ℕ) → key_at r.zoom (column_of i) (top_row r +ℤ pos (i % height r))
      ≡ some (pack_key r.zoom (around (column_of i) (2 ^ r.zoom)) (e.north + i % height r))
  tile_key i =
      let h = height_is in
      let l = row_in i in
      let b = e.south_fits in
      ap (λ y. key_at r.zoom (column_of i) (y +ℤ pos (i % height r))) e.north_is
      ∙ has_key r.zoom (column_of i) (e.north + i % height r) e.low e.high (omega arith)

  pub tile_placed : (i : ℕ) → unplaced (tile_at r i) ≡ false
  unfolding key_of
  tile_placed i = ap (λ o. not (eqb (placed_at o (turns_in (tile_at r i))).number 0)) (tile_key i)

  tile_keyed : (i : ℕ) → key_at r.zoom (column_of i) (top_row r +ℤ pos (i % height r)) ≡ some (key_for (tile_at r i))
  unfolding key_of
  tile_keyed i = placed_key (tile_at r i) (tile_placed i)

  -- its key by steps from the first column: what a pass that lists the keys computes, without signed numbers
  pub key_stepped : (i : ℕ) → key_for (tile_at r i)
      ≡ pack_key r.zoom ((around r.west (2 ^ r.zoom) + i / height r) % (2 ^ r.zoom)) (e.north + i % height r)
  unfolding key_of
  key_stepped i =
      ap (λ o. (placed_at o (turns_in (tile_at r i))).key) (tile_key i)
      ∙ ap (λ x. pack_key r.zoom x (e.north + i % height r)) (around_add r.west (i / height r) (2 ^ r.zoom) (pow_pos r.zoom))

  pub tile_valid : (i : ℕ) → is_key (key_for (tile_at r i)) ≡ true
  tile_valid i = valid_key (key_for (tile_at r i)) (r.zoom, column_of i, top_row r +ℤ pos (i % height r), tile_keyed i)

  pub all_placed : Placed (listed r)
  all_placed = all_sequence (tile_at r) (λ a. unplaced a ≡ false) 0 (area r) (λ i l u. tile_placed i)

  abbrev key_on : ℕ → ℕ
  key_on i = key_for (tile_at r i)

  keys_are : keys (listed r) ≡ sequence key_on 0 (area r)
  keys_are = map_sequence (tile_at r) key_for 0 (area r)

  -- two tiles of the list have two keys
  keys_differ : (i j : ℕ) → i < j → j < area r → key_on i ≢ key_on j
  keys_differ i j l u q = go (same? (i / height r) (j / height r))
    where
      both_parts : (r.zoom ≡ r.zoom) × (around (column_of i) (2 ^ r.zoom) ≡ around (column_of j) (2 ^ r.zoom))
          × (top_row r +ℤ pos (i % height r) ≡ top_row r +ℤ pos (j % height r))
      both_parts = (one_key r.zoom r.zoom (column_of i) (column_of j) _ _ (key_on i) (key_on j) (tile_keyed i) (tile_keyed j)).0 q

      rows : i % height r ≡ j % height r
      rows =
          let y : pos (e.north + i % height r) ≡ pos (e.north + j % height r) =
          subst (λ x. x +ℤ pos (i % height r) ≡ x +ℤ pos (j % height r)) e.north_is both_parts.2 in
          let z : e.north + i % height r ≡ e.north + j % height r = cc in
          omega arith

      go : Same (i / height r) (j / height r) → ⊥
      go (same p t) =
          let a = div-add-mod' i (height r) in
          let b = div-add-mod' j (height r) in
          let m : i / height r * height r ≡ j / height r * height r = ap (λ x. x * height r) p in
          let y = rows in
          omega arith
      go (other p t) = by (ltb (i / height r) (j / height r)) refl
        where
          by : (b : Bool) → ltb (i / height r) (j / height r) ≡ b → ⊥
          by true x =
              columns_apart r.west (2 ^ r.zoom) (i / height r) (j / height r) (pow_pos r.zoom) (ltb-true _ _ x)
              (let c = column_in_lem j u in let o = e.once_round in omega arith) both_parts.1
          by false x =
              columns_apart r.west (2 ^ r.zoom) (j / height r) (i / height r) (pow_pos r.zoom) (let y : j / height r ≤ i / height r = ltb-false _ _ x in omega arith)
              (let c = column_in_lem i (omega arith) in let o = e.once_round in omega arith) (sym both_parts.1)

  pub all_apart : Apart (keys (listed r))
  all_apart = subst Apart (sym keys_are) (apart_sequence key_on 0 (area r) (λ i j l u. keys_differ i j l (omega arith)))

  -- the list has the tiles of the rectangle, and no other
  listed_inside : (k : ℕ) → member k (keys (listed r)) ≡ true → Inside r k
  listed_inside k m =
      let x = member_sequence key_on k 0 (area r) (subst (λ l. member k l ≡ true) keys_are m) in
      let i = x.0 in
      let across = within_span r.west r.east (i / height r) (column_in_lem i (let l = x.2 in omega arith)) in
      let down = within_span (top_row r) (bottom_row r) (i % height r) (row_in i) in
      record {
        column = column_of i;
        row = top_row r +ℤ pos (i % height r);
        from_west = across.0;
        to_east = across.1;
        from_top = down.0;
        to_bottom = down.1;
        has_key = tile_keyed i ∙ ap {B = Option ℕ} some x.3;
      }

  inside_listed : (k : ℕ) → Inside r k → member k (keys (listed r)) ≡ true
  inside_listed k d =
      let across = span_within r.west r.east d.column d.from_west d.to_east in
      let down = span_within (top_row r) (bottom_row r) d.row d.from_top d.to_bottom in
      let x = across.0 in
      let y = down.0 in
      let h = height r in
      let i = x * h + y in
      let column : i / h ≡ x = mul-add-div_right e.tall x y ∙ ap (λ n. x + n) (div-eq_of_lt down.1) ∙ omega arith in
      let row : i % h ≡ y = mul-add-mod_self_right x h y ∙ mod-eq_of_lt down.1 in
      let inside : i < area r = let m = mul-le-mul_right h across.1 in let n = suc-mul x h in let l = down.1 in omega arith in
      let there : key_at r.zoom (column_of i) (top_row r +ℤ pos (i % h)) ≡ some k =
      ap₂ (λ a b. key_at r.zoom (r.west +ℤ pos a) (top_row r +ℤ pos b)) column row
      ∙ ap₂ (λ a b. key_at r.zoom a b) (sym across.2) (sym down.2) ∙ d.has_key in
      let same_key : key_on i ≡ k = let a = tile_keyed i in cc in
      subst (λ n. member n (keys (listed r)) ≡ true) same_key
      (subst (λ l. member (key_on i) l ≡ true) (sym keys_are) (sequence_member key_on i 0 (area r) (omega arith) (omega arith)))

  pub listed_exactly : (k : ℕ) → (member k (keys (listed r)) ≡ true) ↔ Inside r k
  listed_exactly k = (listed_inside k, inside_listed k)

  -- west to east, each column from top to bottom
  pub in_order : (i j : ℕ) → i < j → Before (tile_at r i) (tile_at r j)
  in_order i j l = go (same? (i / height r) (j / height r))
    where
      a : i / height r * height r + i % height r ≡ i
      a = div-add-mod' i (height r)

      b : j / height r * height r + j % height r ≡ j
      b = div-add-mod' j (height r)

      go : Same (i / height r) (j / height r) → Before (tile_at r i) (tile_at r j)
      go (same p t) =
          let m : i / height r * height r ≡ j / height r * height r = ap (λ x. x * height r) p in
          let x = a in
          let y = b in
          inr (ap (λ n. r.west +ℤ pos n) p, further (top_row r) (i % height r) (j % height r) (omega arith))
      go (other p t) = inl (further r.west (i / height r) (j / height r) (by (ltb (i / height r) (j / height r)) refl))
        where
          by : (c : Bool) → ltb (i / height r) (j / height r) ≡ c → i / height r < j / height r
          by true e = ltb-true _ _ e
          by false e =
              let u : j / height r ≤ i / height r = ltb-false _ _ e in
              let m : suc (j / height r) * height r ≤ i / height r * height r = mul-le-mul_right (height r) (omega arith) in
              let n = suc-mul (j / height r) (height r) in
              let v = row_in j in
              let x = a in
              let y = b in
              absurd (omega arith)
