-- HOW FAR ROUND: who tells the turns
use Rattle.std.specs.Prelude.{Bool, cond, false, true, List, [], ◌∷◌, ◌≡◌, refl, ℕ, eqb, pos, ℤ}
use Rattle.std.proofs.Math.Option.{Option, none, some}
use Rattle.lists.specs.Lists.{All}
use Rattle.strict.specs.Commutativity.{Signature}
use Rattle.strict.specs.declared.Rule.{Rule}
use Rattle.grid.specs.Tile.{address_call}
use Rattle.service.specs.Admission.{answer_to}
use Rattle.service.specs.Calls.{concluded, start_call, start_refusals}
use Rattle.service.specs.Claims.{holder_in}
use Rattle.service.specs.History.{Call, aborting, call, committing, event, opening, operating, refusals_of, turns_by}
use Rattle.service.proofs.Laws.Accepting.{numbered}
use Rattle.service.proofs.Laws.Telling.{Numbered}
use Rattle.service.specs.Told.{Refusal, bare, decided, done, refuse_held}
use Rattle.service.specs.World.{World, state}
use Rattle.service.specs.declared.Told.{Told}

-- a reply that has these turns where it is done, and none where it is refused
abbrev pub TellsTurns : Told → ℤ → ℤ → Type 0
TellsTurns t turns last = (t.turns ≡ cond (eqb t.number 0) turns (pos 0)) × (t.last ≡ cond (eqb t.number 0) last (pos 0))

-- no refusal of the list has turns
abbrev pub Turnless : List Refusal → Type 0
Turnless rs = All (λ r. (r.says.turns ≡ pos 0) × (r.says.last ≡ pos 0)) rs

pub held_turnless : (o : Option Signature) → ((refuse_held o).says.turns ≡ pos 0) × ((refuse_held o).says.last ≡ pos 0)
held_turnless none = (refl, refl)
held_turnless (some job) = (refl, refl)

pub decided_tells : (rs : List Refusal) (t : Told) → All Numbered rs → Turnless rs → t.number ≡ 0 → TellsTurns (decided rs t) t.turns t.last
decided_tells [] t n h z = (rw z, rw z)
decided_tells (r ∷ rs) t n h z = go r.applies (decided_tells rs t n.1 h.1 z)
  where
    go : (b : Bool) → TellsTurns (decided rs t) t.turns t.last → TellsTurns (cond b r.says (decided rs t)) t.turns t.last
    go true ih = (rw n.0 h.0.0, rw n.0 h.0.1)
    go false ih = ih

turnless : (w : World) (c : Call) → Turnless (refusals_of w c)
turnless w (opening job) = ((refl, refl), ((refl, refl), ((refl, refl), ((refl, refl), tt))))
turnless w (committing job) = ((refl, refl), ((refl, refl), ((refl, refl), tt)))
turnless w (aborting job) = ((refl, refl), ((refl, refl), ((refl, refl), tt)))
turnless w (operating job sheet p a) =
    ((refl, refl), ((refl, refl), ((refl, refl), ((refl, refl), ((refl, refl), (held_turnless (holder_in w job p (address_call a).key), ((refl, refl), ((refl, refl), ((refl, refl), tt)))))))))

-- an operation that is done tells the turns of its address; every other reply, and every refusal, tells 0
pub turns_told : (w : World) (c : Call) → TellsTurns (call w c).told (turns_by c) (pos 0)
unfolding concluded
turns_told w c = decided_tells (refusals_of w c) (done (answer_to (state w) (event c)) (turns_by c)) (numbered w c) (turnless w c) refl

pub start_turnless : (r : Rule) (tiles : List ℕ) (count : ℕ) (operations journal : List ℕ) → TellsTurns (start_call r tiles count operations journal).told (pos 0) (pos 0)
unfolding start_call
start_turnless r tiles count operations journal =
    decided_tells (start_refusals r tiles count operations journal) (bare 0) (refl, (refl, tt)) ((refl, refl), ((refl, refl), tt)) refl
