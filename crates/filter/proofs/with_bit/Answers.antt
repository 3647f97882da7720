-- `filter::with_bit` meets its contract: the bits of a union are the larger ones
use mathlib.Core.Path.{◌∙◌, ◌≡◌, ap}
use Prim.Native.Nat.{◌%◌, ◌*◌, ◌/◌, ◌^◌}
use native.Mathlib.Omega.{arith}
use lib.Pow.{shl_exact, shl-shr}
use Rattle.filter.specs.Laws.{bit_added, bit_kept}
use Rattle.filter.specs.Filter.{bit_in}
use Rattle.filter.proofs.with_bit.Goals as goal

pub returns : goal.returns
returns c =
    let place = c.args.place in
    let one : bit_in ((1 * 2 ^ place) % 2 ^ 64) place ≡ 1 = ap (λ x. x / 2 ^ place % 2) (shl_exact 1 place 64 (omega arith) (omega arith)) ∙ ap (λ x. x % 2) (shl-shr 1 place) in
    (bit_added c.args.word _ place one, λ k e. bit_kept c.args.word _ k e)
