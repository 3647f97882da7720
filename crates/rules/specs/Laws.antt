-- The rule's tests are the book's
use Rattle.std.specs.Prelude.{◌&&◌, false, not, true, List, [], ◌∷◌, map, ◌≡◌, refl, ℕ, eqb}
use Rattle.std.proofs.Math.Bool.{and-false, and-true}
use Rattle.std.proofs.Common.{◌∙◌, ap, sym, ne_eqb}
use Rattle.std.proofs.lemmas.Bool.{not-true}
use Rattle.lists.specs.Truth.{both, both_false}
use Rattle.entries.specs.Laws.{holder_place, opposed, others_changed, signed_at}
use Rattle.entries.specs.Table.{first_place}
use Rattle.filter.specs.Filter.{elsewhere}
use Rattle.service.specs.Entry.{key_in, op_in}
use Rattle.strict.specs.Book.{deleted, held_by, needs_place}
use Rattle.strict.specs.Operations.{Op, begun, kind}
use Rattle.strict.specs.Tiles.{member}
use Rattle.strict.specs.declared.Procedure.{Procedure}
use Rattle.strict.specs.declared.Rule.{Rule}
use Rattle.strict.specs.declared.Rule.TheVariants.{Alone, Together}
use Rattle.rules.specs.Rules.{holds_by, wants_place}

module _ (job : ℕ) (p : Procedure) (key : ℕ) (t : List ℕ) where
  -- the holder is whose the first entry is that holds
  pub held_place : (r : Rule) (es : List ℕ)
      → held_by r (record { tiles = t; table = map op_in es }) job p key ≡ signed_at es (first_place (holds_by r job (kind p (member key t)) key) es)
  held_place Alone es = holder_place Alone (begun job p key t) (holds_by Alone job (kind p (member key t)) key) (opposed job p key t) es
  held_place Together es = holder_place Together (begun job p key t) (holds_by Together job (kind p (member key t)) key) (others_changed job p key t) es

  pub place_wanted : (r : Rule) (us : List Op) → needs_place r us (begun job p key t) ≡ wants_place r us (kind p (member key t)) key
  place_wanted Alone us = refl
  place_wanted Together us = refl

-- only an ins of an absent tile needs one
pub other_kind : (r : Rule) (us : List Op) (n key : ℕ) → (n ≡ 1 → ⊥) → false ≡ wants_place r us n key
other_kind Alone us n key h = sym (ne_eqb n 1 h)
other_kind Together us n key h = rw (ne_eqb n 1 h)

-- A TILE THAT NO ENTRY HAS needs a place just where it is inserted and absent
none_deleted : (k : ℕ) (es : List ℕ) → elsewhere k es ≡ true → deleted k (map op_in es) ≡ false
none_deleted k [] h = refl
none_deleted k (e ∷ es) h =
    let two = both (not (eqb k (key_in e))) (elsewhere k es) h in
    let three = eqb (kind (op_in e).proc (op_in e).found) 3 in
    both_false (ap (λ b. three && b) (not-true (eqb k (key_in e)) two.0) ∙ and-false three) (none_deleted k es two.1)

pub unmet_wants : (r : Rule) (es : List ℕ) (n key : ℕ) → elsewhere key es ≡ true → wants_place r (map op_in es) n key ≡ eqb n 1
unmet_wants Alone es n key h = refl
unmet_wants Together es n key h = rw (none_deleted key es h) (and-true (eqb n 1))
