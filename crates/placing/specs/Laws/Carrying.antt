-- A list of keys carried out, whole or not at all
use Rattle.std.specs.Prelude.{Bool, false, true, List, ◌≡◌, refl, ℕ, length}
use Rattle.std.proofs.Math.Bool.{cond}
use Rattle.std.proofs.Common.{◌∙◌, sym, eqb-true, ltb-false}
use Rattle.std.proofs.Math.Path.{ap, ap₂}
use Rattle.std.proofs.Math.Dec.{eqb}
use Rattle.lists.specs.Lists.{All}
use Rattle.strict.specs.declared.Procedure.{Procedure}
use Rattle.service.specs.Claims.{Serves}
use Rattle.service.proofs.Laws.Telling.{Numbered, decided_done, held_numbered, not_held, unrefused}
use Rattle.service.specs.Told.{bare, decided}
use Rattle.service.specs.World.{Reported, World, state}
use Rattle.service.specs.declared.Told.{Told}
use Rattle.rectangles.specs.Fitting.{Ahead, Fits}
use Rattle.rectangles.proofs.Laws.Fitting.{ahead_start}
use Rattle.rectangles.specs.Rectangles.{carried_all, first_held, list_refusals}
use Rattle.placing.specs.Passes.{Carries, list_call}

-- WHOLE OR NOT AT ALL
pub list_numbered : (w : World) (job : ℕ) (p : Procedure) (ks : List ℕ) → All Numbered (list_refusals w job p ks)
list_numbered w job p ks = (held_numbered (first_held w.session.rule (state w).book job p ks), (refl, (refl, (refl, tt))))

module _ (w : World) (job sheet : ℕ) (p : Procedure) (ks : List ℕ) (t : Told) (same : t ≡ decided (list_refusals w job p ks) (bare 0)) where
  list_reports : (b : Bool) → eqb t.number 0 ≡ b → record { told = t; after = cond b (carried_all w job sheet p ks) w } ≡ list_call w job sheet p ks
  unfolding list_call
  list_reports b h =
      ap₂ {C = Reported} (λ (x : Told) b. record { told = x; after = cond b (carried_all w job sheet p ks) w }) same
      (sym h ∙ ap (λ (x : Told). eqb x.number 0) same)

  pub list_refused : eqb t.number 0 ≡ false → record { told = t; after = w } ≡ list_call w job sheet p ks
  list_refused h = list_reports false h

  module _ (zero : eqb t.number 0 ≡ true) where
    pub list_done : (v : World) → v ≡ carried_all w job sheet p ks → record { told = t; after = v } ≡ list_call w job sheet p ks
    list_done v is = ap {B = Reported} (λ x. record { told = t; after = x }) is ∙ list_reports true zero

    list_fits : Serves w job → Fits w job p ks
    list_fits ready =
        let h = unrefused (list_refusals w job p ks)
        (decided_done (list_refusals w job p ks) (bare 0) (list_numbered w job p ks) (ap (λ (x : Told). x.number) (sym same) ∙ eqb-true t.number 0 zero)) in
        record {
          ready = ready;
          unheld = not_held (first_held w.session.rule (state w).book job p ks) h.0;
          places = ltb-false _ _ h.1.0;
          slots = ltb-false _ _ h.1.1.0;
          bytes = ltb-false _ _ h.1.1.1.0;
        }

-- the list of keys that the call was given
pub list_ahead : (w : World) (job sheet : ℕ) (p : Procedure) (ks : List ℕ) → Carries w job ks → length w.session.marks ≡ 64
    → (t : Told) → t ≡ decided (list_refusals w job p ks) (bare 0) → eqb t.number 0 ≡ true → Ahead job sheet p w ks w ks
list_ahead w job sheet p ks c full t same zero = ahead_start w ks full c.valid c.apart (list_fits w job sheet p ks t same zero c.ready)
