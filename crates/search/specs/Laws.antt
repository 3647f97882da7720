-- How a tile table comes about, what stands behind its used places, and where the place of a key is
use Rattle.std.specs.Prelude.{List, [], ◌∷◌, ◌≡◌, ◌-◌, ◌≤◌, suc, ℕ, ltb, drop, length, replicate, take}
use Rattle.std.proofs.Common.{◌∙◌, ap, suc-le-suc, arith, drop_at, length-take-le}
use Rattle.lists.specs.Lists.{All, padded}
use Rattle.lists.specs.Truth.{by_cond}
use Rattle.strict.specs.Tiles.{Ascending}
use Rattle.service.proofs.Laws.Storing.{length_padded, padded_zeros, used_padded}
use Rattle.search.specs.Table.{TileTable, position_of}

-- from a count that fits, with nothing but 0 behind what is used
pub zeros_table : (count : ℕ) (l : List ℕ) → count ≤ length l → Ascending (take count l) → All (λ x. x ≡ 0) (drop count l) → TileTable l count
zeros_table count l fit asc zeros = record { fits = fit; ascending = asc; zeros_behind = padded_zeros count l fit zeros }

-- from what is used
pub padded_table : (n : ℕ) (xs : List ℕ) → length xs ≤ n → Ascending xs → TileTable (padded n xs) (length xs)
padded_table n xs fit asc =
    let used : take (length xs) (padded n xs) ≡ xs = used_padded n xs in
    let places : length (padded n xs) ≡ n = length_padded n xs fit in
    record { fits = omega arith; ascending = rw used asc; zeros_behind = rw (places, used) }

module _ {l : List ℕ} {count : ℕ} (t : TileTable l count) where
  pub used_length : length (take count l) ≡ count
  used_length = length-take-le count l t.fits

  pub rest_zeros : drop count l ≡ replicate (length l - count) 0
  rest_zeros =
      ap (drop count) t.zeros_behind ∙ drop_at (take count l) (replicate (length l - length (take count l)) 0) count used_length
      ∙ ap (λ n. replicate (length l - n) 0) used_length

-- the place of a key is used, or the first that is not
place_fits : (k : ℕ) (s : List ℕ) → position_of k s ≤ length s
place_fits k [] = omega arith
place_fits k (x ∷ xs) = by_cond (λ p. p ≤ suc (length xs)) (ltb x k) (λ _. suc-le-suc (place_fits k xs)) (λ _. omega arith)

pub within : {l : List ℕ} {count : ℕ} (k : ℕ) (t : TileTable l count) {p : ℕ} → p ≡ position_of k (take count l) → p ≤ count
within {l} {count} k t e = let n = used_length t in let h = place_fits k (take count l) in omega arith
