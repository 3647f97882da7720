-- From the gate and the shape of a rectangle to what the call promises
use Rattle.std.specs.Prelude.{Bool, Err, not, List, [], ◌∷◌, ◌≡◌, ℕ, pos, length}
use Rattle.std.proofs.Math.Bool.{cond, false, true}
use Rattle.std.proofs.Common.{◌∙◌, arith, subst, eqb-true, le-ltb, ltb-false}
use Rattle.std.proofs.Math.Path.{ap, refl, sym}
use Rattle.std.proofs.Math.Dec.{eqb}
use Rattle.std.proofs.lemmas.Bool.{not-false}
use Rattle.lists.specs.Lists.{All}
use Rattle.strict.specs.declared.Procedure.{Procedure}
use Rattle.grid.specs.Tile.{is_key}
use Rattle.service.specs.Calls.{end_refusals}
use Rattle.service.specs.Claims.{Serves}
use Rattle.service.specs.History.{committing}
use Rattle.service.proofs.Laws.Accepting.{numbered}
use Rattle.service.proofs.Laws.Telling.{Numbered, decided_done, unrefused}
use Rattle.service.specs.Told.{Refusal, bare, decided, done, refuse, told}
use Rattle.service.specs.World.{Reported, World}
use Rattle.service.specs.declared.Told.{Told}
use Rattle.decisions.specs.Laws.{decided_append, gate_refuses}
use Rattle.rectangles.specs.Claims.{Apart, Shaped}
use Rattle.rectangles.proofs.Laws.Tiles.{all_apart}
use Rattle.rectangles.specs.Rectangles.{carried_all, covered, keys, list_refusals, listed, misnamed, misshapen, out_of_range, procedure_for, rectangle_call, rectangle_refusals}
use Rattle.rectangles.specs.declared.Change.{Change}
use Rattle.rectangles.specs.declared.Rectangle.{Rectangle}
use Rattle.shapes.specs.Laws.Listed.{all_valid, shape_few}
use Rattle.shapes.specs.Shaping.{Shapes, reason_of}
use Rattle.grid.specs.declared.Unplaced.TheVariants.{NoEdition, OutOfRange}
use Rattle.shapes.specs.declared.Flaw.TheVariants.{Corner, Misshapen}
use Rattle.shapes.specs.declared.Flaw.{Flaw}
use Rattle.shapes.specs.declared.Shape.{Shape}
use Rattle.placing.specs.Laws.Carrying.{list_numbered}
use Rattle.placing.specs.Passes.{Carries, list_after, list_call}
use Rattle.covering.specs.Asking.{Asks, turns_added}

-- the list as it was written
pub asks_carries : (w : World) (job : ℕ) (r : Rectangle) (s : Shape) → Asks w job r s → (l : List ℕ) → length l ≡ s.n → l ≡ keys (listed r)
    → Carries w job l
asks_carries w job r s a l all is =
    record {
      ready = a.ready;
      few = omega (arith, all, shape_few r s a.shape);
      valid = subst (All (λ k. is_key k ≡ true)) (sym is) (all_valid r a.shape.0);
      apart = subst Apart (sym is) (all_apart r a.shape.0);
    }

-- THE TURNS: told where a list decides 0
pub turns_added_lem : (r : Rectangle) (rs : List Refusal) → All Numbered rs → decided rs (covered r) ≡ turns_added r (decided rs (bare 0))
turns_added_lem r [] n = refl
turns_added_lem r (x ∷ rs) n = go x.applies (turns_added_lem r rs n.1)
  where
    go : (b : Bool) → decided rs (covered r) ≡ turns_added r (decided rs (bare 0)) → cond b x.says (decided rs (covered r)) ≡ turns_added r (cond b x.says (decided rs (bare 0)))
    go true ih = sym (ap (λ b. cond b (covered r) x.says) n.0)
    go false ih = ih

-- THE GATE: 1, 2 and 3
module _ (w : World) (job : ℕ) (t : Told) (gate : t ≡ decided (end_refusals w job) (done false (pos 0))) where
  pub gate_ready : eqb t.number 0 ≡ true → Serves w job
  gate_ready zero =
      let h = unrefused (end_refusals w job)
      (decided_done (end_refusals w job) (done false (pos 0)) (numbered w (committing job)) (ap (λ (x : Told). x.number) (sym gate) ∙ eqb-true t.number 0 zero)) in
      record { is_sound_there = not-false _ h.0; small = ltb-false 63 job h.1.0; job_is_open = not-false _ h.1.1.0 }

module _ (w : World) (job sheet : ℕ) (change : Change) (r : Rectangle) where
  abbrev p : Procedure
  p = procedure_for change

  abbrev ks : List ℕ
  ks = keys (listed r)

  -- 14, 5 and 13, and those of the list
  abbrev later : List Refusal
  later = refuse 14 (misnamed r) ∷ refuse 5 (out_of_range r) ∷ refuse 13 (misshapen r) ∷ list_refusals w job p ks

  call_is : rectangle_call w job sheet change r ≡ list_after w job sheet p ks (decided (rectangle_refusals w job p r) (covered r))
  unfolding rectangle_call
  call_is = refl

  pub gate_told : (t : Told) → t ≡ decided (end_refusals w job) (done false (pos 0)) → eqb t.number 0 ≡ false → record { told = t; after = w } ≡ rectangle_call w job sheet change r
  gate_told t gate f =
      let whole : t ≡ decided (rectangle_refusals w job p r) (covered r) =
      gate
      ∙ gate_refuses (end_refusals w job) (done false (pos 0)) (decided later (covered r)) refl (ap (λ (x : Told). eqb x.number 0) (sym gate) ∙ f)
      ∙ sym (decided_append (end_refusals w job) later (covered r)) in
      ap {B = Reported} (λ b. record { told = t; after = cond b (carried_all w job sheet p ks) w }) (sym f) ∙ ap (list_after w job sheet p ks) whole ∙ sym call_is

  module _ (ready : Serves w job) where
    past_gate : decided (rectangle_refusals w job p r) (covered r) ≡ decided later (covered r)
    past_gate = rw (ready.is_sound_there, le-ltb 63 job ready.small, ready.job_is_open)

    pub tells_flaw : (flaw : Flaw) → Shapes r (Err flaw) → record { told = told (Err (reason_of flaw)); after = w } ≡ rectangle_call w job sheet change r
    tells_flaw (Corner NoEdition) e =
        let t : bare 14 ≡ decided (rectangle_refusals w job p r) (covered r) = sym (past_gate ∙ rw e) in
        ap (list_after w job sheet p ks) t ∙ sym call_is
    tells_flaw (Corner OutOfRange) e =
        let t : bare 5 ≡ decided (rectangle_refusals w job p r) (covered r) = sym (past_gate ∙ rw (e.0, e.1)) in
        ap (list_after w job sheet p ks) t ∙ sym call_is
    tells_flaw Misshapen e =
        let t : bare 13 ≡ decided (rectangle_refusals w job p r) (covered r) = sym (past_gate ∙ rw (e.0, e.1, e.2)) in
        ap (list_after w job sheet p ks) t ∙ sym call_is

    -- a list that is done tells the turns, and a refusal what it told
    pub tells_list : Shaped r → (t x : Told) (v : World) → record { told = t; after = v } ≡ list_call w job sheet p ks → x ≡ turns_added r t
        → record { told = x; after = v } ≡ rectangle_call w job sheet change r
    unfolding list_call
    tells_list s t x v e added =
        let list : Told = decided (list_refusals w job p ks) (bare 0) in
        let whole : turns_added r list ≡ decided (rectangle_refusals w job p r) (covered r) =
        sym (turns_added_lem r (list_refusals w job p ks) (list_numbered w job p ks))
        ∙ sym (past_gate ∙ (λ i. decided (refuse 14 (not (s.of_edition i)) ∷ refuse 5 (s.in_range i) ∷ refuse 13 (s.well_formed i) ∷ list_refusals w job p ks) (covered r))) in
        ap {B = Reported} (λ y. record { told = y; after = v }) added
        ∙ ap (λ (y : Reported). record { told = turns_added r y.told; after = y.after }) e
        ∙ ap {B = Reported} (λ b. record { told = turns_added r list; after = cond b (carried_all w job sheet p ks) w }) (same_number list (eqb list.number 0) refl)
        ∙ ap (list_after w job sheet p ks) whole
        ∙ sym call_is
      where
        same_number : (t : Told) (b : Bool) → eqb t.number 0 ≡ b → eqb t.number 0 ≡ eqb (turns_added r t).number 0
        same_number t true h = rw h
        same_number t false h = sym (rw h h)
