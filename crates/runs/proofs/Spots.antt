-- The place of a key in an ascending list, known by the key there and the one before it
use Rattle.std.specs.Prelude.{◌≡◌, ◌-◌, ◌<◌, ◌≤◌, List, get_or, length, ℕ}
use Rattle.std.proofs.Common.{arith}
use Rattle.strict.specs.Tiles.{Ascending}
use Rattle.search.proofs.Places.{place_at, rising}
use Rattle.search.specs.Table.{position_of}

pub place_known : (k : ℕ) (s : List ℕ) → Ascending s → (at : ℕ)
    → at ≤ length s → (0 < at → get_or s (at - 1) 0 < k) → (at < length s → k ≤ get_or s at 0) → at ≡ position_of k s
place_known k s asc at fits before there =
    place_at k s at fits
    (λ j h.
    let up = rising s asc j (at - 1) (omega arith) (omega arith) in
    let below = before (omega arith) in
    omega arith)
    there
