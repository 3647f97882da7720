-- WHAT KEYS ARE: laws of addresses and their keys
use Rattle.std.specs.Prelude.{Result, Ok, Err, cond, true, ◌↔◌, ◌≢◌, ◌≡◌, refl, ◌-◌, ◌<◌, ◌^◌, ◌≤◌, ℕ, eqb, ◌*ℤ◌, ◌+ℤ◌, pos, ℤ}
use Rattle.std.proofs.Math.Option.{none, some}
use Rattle.std.proofs.Common.{◌∙◌, ap, ap₂, sym, arith, pow_pos}
use Rattle.grid.proofs.Laws.Keys.{around_is, around_lt, column_back, has_key, key_above, key_valid, keyed_at, keyed_edition, no_edition, row_back, turned_back, turned_inside, turns_only, valid_key, zoom_back}
use Rattle.grid.specs.Limits.{highest_zoom, lowest_zoom, north_edition, south_edition}
use Rattle.grid.specs.Tile.{Placed, Valid, address_call, address_of, around, column_in, is_edition, is_key, key_at, key_of, north_row, pack_key, placed, placed_at, row_in, turned_row, turns_in, turns_of, unplaced_by, zoom_in}
use Rattle.grid.specs.declared.Address.{Address}
use Rattle.grid.specs.declared.Keyed.{Keyed}
use Rattle.grid.specs.declared.Unplaced.TheVariants.{NoEdition, OutOfRange}
use Rattle.grid.specs.declared.Unplaced.{Unplaced}

-- the key's column is the remainder by 2 ^ zoom: from 0 to 2 ^ zoom - 1, and a whole number of turns from the column
pub column_round : (z : ℕ) (c : ℤ) → (around c (2 ^ z) < 2 ^ z) × ((turns : ℤ) × (c ≡ turns *ℤ pos (2 ^ z) +ℤ pos (around c (2 ^ z))))
column_round z c = (around_lt c (2 ^ z) (pow_pos z), (turns_of c (2 ^ z), around_is c (2 ^ z) (pow_pos z)))

-- every column is accepted, with a zoom and a row in their ranges
pub every_column : (z : ℕ) (c : ℤ) (y : ℕ) → lowest_zoom ≤ z → z ≤ highest_zoom → y < 2 ^ z → key_at z c (pos y) ≡ some (pack_key z (around c (2 ^ z)) y)
every_column z c y low high row = has_key z c y low high row

-- and no other address has a key
pub keyed_range : (z : ℕ) (c y : ℤ) (k : ℕ) → key_at z c y ≡ some k → (lowest_zoom ≤ z) × (z ≤ highest_zoom) × ((row : ℕ) × (y ≡ pos row) × (row < 2 ^ z))
keyed_range z c y k e = let a = keyed_at z c y k e in (a.low, a.high, (a.row, a.row_is, a.row_fits))

-- a key gives its zoom, column and row back
pub key_parts : (z : ℕ) (c y : ℤ) (k : ℕ) → key_at z c y ≡ some k → (zoom_in k ≡ z) × (column_in k ≡ around c (2 ^ z)) × (pos (row_in k) ≡ y)
key_parts z c y k e = let a = keyed_at z c y k e in (zoom_back z c y k a, column_back z c y k a, row_back z c y k a)

-- ROWS FROM THE SOUTH
-- a row turned twice is the row, on every level
pub turned_twice : (z : ℕ) (y : ℤ) → turned_row z (turned_row z y) ≡ y
turned_twice z y = turned_back z y

-- the rows of a level are turned into its rows, the first into the last
pub turned_within : (z y : ℕ) → y < 2 ^ z → turned_row z (pos y) ≡ pos (2 ^ z - 1 - y)
turned_within z y l = turned_inside z y l

-- edition 1 counts its rows from the south, so that they are turned, and edition 2 from the north
pub edition_rows : (z : ℕ) (c y : ℤ) → (key_of (address_of 1 z c y) ≡ key_at z c (turned_row z y)) × (key_of (address_of 2 z c y) ≡ key_at z c y)
unfolding key_of
edition_rows z c y = (refl, refl)

-- so that a key holds the row as it is counted from the north
pub north_row_kept : (a : Address) (k : ℕ) → key_of a ≡ some k → pos (row_in k) ≡ north_row a.edition a.zoom a.row
north_row_kept a k e = (key_parts a.zoom a.column (north_row a.edition a.zoom a.row) k (keyed_edition a k e).1).2

-- whatever an address of one edition reaches, the same address with its row turned reaches in the other
pub editions_same_keys : (z : ℕ) (c y : ℤ)
    → (address_call (address_of south_edition z c y) ≡ address_call (address_of north_edition z c (turned_row z y)))
    × (address_call (address_of north_edition z c y) ≡ address_call (address_of south_edition z c (turned_row z y)))
unfolding key_of
editions_same_keys z c y = (refl, sym (ap (λ x. placed_at (key_at z c x) (turns_of c (2 ^ z))) (turned_twice z y)))

-- THE STEP
-- it gives the key and the turns; where there is no key 5, no key and no turns; and where there is no such edition 14, no key and no turns
pub address_given : (a : Address) (k : ℕ) → key_of a ≡ some k → address_call a ≡ record { number = 0; key = k; turns = turns_in a }
address_given a k e = let known = (keyed_edition a k e).0 in λ i. cond (known i) (placed_at (e i) (turns_in a)) (unplaced_by 14)

pub address_refused : (a : Address) → is_edition a.edition ≡ true → key_of a ≡ none → address_call a ≡ record { number = 5; key = 0; turns = pos 0 }
address_refused a known e i = cond (known i) (placed_at (e i) (turns_in a)) (unplaced_by 14)

pub address_unknown : (a : Address) → a.edition ≢ south_edition → a.edition ≢ north_edition → address_call a ≡ record { number = 14; key = 0; turns = pos 0 }
address_unknown a s n = let other = (no_edition a.edition).1 (s, n) in ap (λ b. cond b (placed_at (key_of a) (turns_in a)) (unplaced_by 14)) other

-- the turns are the one number with which column = turns × 2 ^ zoom + the key's column
pub turns_exact : (a : Address) (k : ℕ) → key_of a ≡ some k
    → (turns : ℤ) → (a.column ≡ turns *ℤ pos (2 ^ a.zoom) +ℤ pos (column_in k)) ↔ (turns ≡ (address_call a).turns)
turns_exact a k e turns = (only, meets)
  where
    size : ℕ
    size = 2 ^ a.zoom

    column_is : column_in k ≡ around a.column size
    column_is = (key_parts a.zoom a.column (north_row a.edition a.zoom a.row) k (keyed_edition a k e).1).1

    told : (address_call a).turns ≡ turns_in a
    told = ap (λ (p : Placed). p.turns) (address_given a k e)

    only : a.column ≡ turns *ℤ pos size +ℤ pos (column_in k) → turns ≡ (address_call a).turns
    only is =
        sym (turns_only turns size (column_in k) (rw column_is (around_lt a.column size (pow_pos a.zoom))))
        ∙ ap (λ c. turns_of c size) (sym is)
        ∙ sym told

    meets : turns ≡ (address_call a).turns → a.column ≡ turns *ℤ pos size +ℤ pos (column_in k)
    meets is =
        around_is a.column size (pow_pos a.zoom)
        ∙ ap₂ (λ t x. t *ℤ pos size +ℤ pos x) (sym (is ∙ told)) (sym column_is)

-- what it promises leaves one answer
abbrev located : Placed → Result Keyed Unplaced
located p = cond (eqb p.number 0) (Ok (record { key = p.key; turns = p.turns })) (Err (cond (eqb p.number 5) OutOfRange NoEdition))

located_back : (l : Result Keyed Unplaced) → located (placed l) ≡ l
located_back (Ok at) = refl
located_back (Err OutOfRange) = refl
located_back (Err NoEdition) = refl

pub address_once : (a : Address) (l m : Result Keyed Unplaced) → placed l ≡ address_call a → placed m ≡ address_call a → l ≡ m
address_once a l m p q = sym (located_back l) ∙ ap located (p ∙ sym q) ∙ located_back m

-- two addresses have one key exactly when zoom, row and the column's remainder agree
pub one_key : (z z' : ℕ) (c c' y y' : ℤ) (k k' : ℕ) → key_at z c y ≡ some k → key_at z' c' y' ≡ some k'
    → (k ≡ k') ↔ ((z ≡ z') × (around c (2 ^ z) ≡ around c' (2 ^ z')) × (y ≡ y'))
one_key z z' c c' y y' k k' e e' = (there, again)
  where
    there : k ≡ k' → (z ≡ z') × (around c (2 ^ z) ≡ around c' (2 ^ z')) × (y ≡ y')
    there p =
        let a = key_parts z c y k e in
        let b = key_parts z' c' y' k' e' in
        (sym a.0 ∙ ap zoom_in p ∙ b.0, sym a.1 ∙ ap column_in p ∙ b.1, sym a.2 ∙ ap (λ n. pos (row_in n)) p ∙ b.2)

    again : (z ≡ z') × (around c (2 ^ z) ≡ around c' (2 ^ z')) × (y ≡ y') → k ≡ k'
    again q =
        let a = keyed_at z c y k e in
        let b = keyed_at z' c' y' k' e' in
        let rows : a.row ≡ b.row = let p : pos a.row ≡ pos b.row = sym a.row_is ∙ q.2 ∙ b.row_is in cc in
        a.key_is ∙ (λ i. pack_key (q.0 i) (q.1 i) (rows i)) ∙ sym b.key_is

-- a number is a valid key exactly when it passes the test; 0 is not
pub valid_exact : (k : ℕ) → Valid k ↔ (is_key k ≡ true)
valid_exact k = (valid_key k, key_valid k)

pub zero_invalid : Valid 0 → ⊥
zero_invalid v = omega (arith, key_above 0 (valid_key 0 v))
