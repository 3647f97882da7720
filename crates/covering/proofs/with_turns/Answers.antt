-- `covering::with_turns` meets its contract: the turns are those of west and of east, as the casts read them back
use mathlib.Core.Path.{◌∙◌, ◌≡◌, ap, ap₂, sym}
use Prim.Native.Nat.{◌<◌, ℕ}
use lib.IntN.{ℤ}
use lib.Signed.{mag}
use mir.Syntax.{w32}
use mir.Val.{of_z, to_z}
use Rattle.address.proofs.Signed.{field_read, turns_read}
use Rattle.grid.specs.Tile.{turns_of}
use Rattle.service.specs.Told.{told}
use Rattle.service.specs.declared.Told.{Told}
use Rattle.covering.specs.Asking.{turns_added}
use Rattle.std.proofs.Common.{rules}
use Rattle.covering.proofs.with_turns.Goals as goal

-- the turns of a column that is a field
turns_back : (column found : ℤ) (n : ℕ) → mag column < 2147483648 → found ≡ turns_of (to_z w32 (of_z w32 column)) n → to_z w32 (of_z w32 found) ≡ turns_of column n
turns_back column found n bound is =
    let same : found ≡ turns_of column n = is ∙ ap (λ c. turns_of c n) (field_read column bound) in
    ap (λ t. to_z w32 (of_z w32 t)) same ∙ turns_read column n (record { sfits = bound })

pub returns : goal.returns
returns c =
    let r = c.args.r in
    ap₂ {C = Told} (λ x y. record { number = 0; answer = 0; holder = 0; sheet = 0; turns = x; last = y })
    (turns_back r.west _ _ (search rules) c.turns.ensures) (turns_back r.east _ _ (search rules) c.turns-2.ensures)
    ∙ ap (λ x. turns_added r (told x)) (sym c.in_ok-reply.was)
