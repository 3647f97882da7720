-- What a decision on an operation says of its refusals
use Rattle.std.specs.Prelude.{false, List, Result, Ok, Err, ◌≡◌, ℕ, eqb}
use Rattle.strict.specs.declared.Procedure.{Procedure}
use Rattle.grid.specs.Tile.{address_call}
use Rattle.grid.specs.declared.Address.{Address}
use Rattle.service.specs.Calls.{keyed_refusals, operation_refusals}
use Rattle.service.specs.Told.{Refusal, decided, refused, told}
use Rattle.service.specs.World.{World, used_tiles}
use Rattle.service.specs.declared.Told.{Told}
use Rattle.tiles.specs.Table.{spot_of}
use Rattle.tiles.specs.declared.Spot.{Spot}
use Rattle.service.specs.declared.Reason.{Reason}
use Rattle.weighing.specs.declared.Weighed.{Weighed}

-- the reason that refusals decide, of which one applies
abbrev pub Refuses : List Refusal → Reason → Type 0
Refuses rs why = ((t : Told) → told (Err why) ≡ decided rs t) × (eqb (told (Err why)).number 0 ≡ false)

-- where none applies, the operation is performed on the key k, at its place among the used tiles
abbrev pub Judges : World → ℕ → Procedure → ℕ → Result Spot Reason → Type 0
Judges w job p k (Err why) = Refuses (keyed_refusals w job p k) why
Judges w job p k (Ok spot) = (refused (keyed_refusals w job p k) ≡ false) × (spot ≡ spot_of k (used_tiles w))

-- and with the turns of the address
abbrev pub Decides : World → ℕ → Procedure → Address → Result Weighed Reason → Type 0
Decides w job p a (Err why) = Refuses (operation_refusals w job p a) why
Decides w job p a (Ok weighed) =
    (refused (operation_refusals w job p a) ≡ false) × (weighed.spot ≡ spot_of (address_call a).key (used_tiles w)) × (weighed.turns ≡ (address_call a).turns)
