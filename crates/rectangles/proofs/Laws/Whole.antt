-- A rectangle that 14, 5 and 13 do not refuse is its operations
use Rattle.std.proofs.Math.Bool.{cond}
use Rattle.std.specs.Prelude.{not, true, List, [], ◌∷◌, ◌↔◌, ◌≢◌, ◌≡◌, ◌^◌, ◌≤◌, suc, zero, ℕ, eqb, pos, ℤ, length}
use Rattle.std.proofs.Math.Option.{Option, none, some}
use Rattle.std.proofs.Common.{◌∙◌, subst, sym, mul-le-mul, arith, le-ltb, ltb-false}
use Rattle.std.proofs.Math.Path.{ap, refl}
use Rattle.std.proofs.lemmas.Bool.{not-false}
use Rattle.lists.specs.Lists.{All}
use Rattle.strict.specs.Commutativity.{Signature}
use Rattle.strict.specs.Strict.{◌▷◌, Log}
use Rattle.strict.specs.Tiles.{member}
use Rattle.strict.specs.declared.Procedure.{Procedure}
use Rattle.strict.specs.declared.Rule.{Rule}
use Rattle.grid.specs.Tile.{turns_of}
use Rattle.service.specs.Claims.{Serves}
use Rattle.service.proofs.Demands.{all_marks}
use Rattle.service.specs.History.{Call, From, called, started}
use Rattle.service.proofs.Laws.Accepting.{serves_is}
use Rattle.service.proofs.Laws.Telling.{Numbered, Passed, decided_among, held_numbered, not_held, told_zero}
use Rattle.service.specs.Told.{decided, refuse_held}
use Rattle.service.proofs.Turns.{TellsTurns, Turnless, decided_tells, held_turnless}
use Rattle.service.specs.World.{World, state}
use Rattle.rectangles.specs.Claims.{AllDone, FromMoves, Move, Shaped, calls_of, followed, left_by, operations, plain, rectangle, refusing_rectangle, starting, went, written}
use Rattle.rectangles.specs.Fitting.{Fits}
use Rattle.rectangles.proofs.Laws.Fitting.{done_fits, done_ready, fits_done}
use Rattle.rectangles.proofs.Laws.Tiles.{all_apart, all_placed, extent}
use Rattle.rectangles.specs.Rectangles.{area, carried_all, covered, first_held, keys, list_refusals, listed, procedure_for, rectangle_call, rectangle_refusals, sequence, tile_at}
use Rattle.rectangles.specs.declared.Change.{Change}
use Rattle.rectangles.specs.declared.Rectangle.{Rectangle}

pub numbered_rectangle : (w : World) (job : ℕ) (p : Procedure) (r : Rectangle) → All Numbered (rectangle_refusals w job p r)
numbered_rectangle w job p r =
    (refl, (refl, (refl, (refl, (refl, (refl, (held_numbered (first_held w.session.rule (state w).book job p (keys (listed r))), (refl, (refl, (refl, tt))))))))))

module _ (w : World) (job sheet : ℕ) (change : Change) (r : Rectangle) where
  abbrev p : Procedure
  p = procedure_for change

  pub rectangle_told : (rectangle_call w job sheet change r).told ≡ decided (rectangle_refusals w job p r) (covered r)
  unfolding rectangle_call
  rectangle_told = refl

  pub tells_turns : TellsTurns (rectangle_call w job sheet change r).told (turns_of r.west (2 ^ r.zoom)) (turns_of r.east (2 ^ r.zoom))
  unfolding rectangle_call
  tells_turns = decided_tells (rectangle_refusals w job p r) (covered r) (numbered_rectangle w job p r) turnless refl
    where
      zeros : (◌≡◌ {A = ℤ} (pos 0) (pos 0)) × (◌≡◌ {A = ℤ} (pos 0) (pos 0))
      zeros = (refl, refl)

      held : Option Signature
      held = first_held w.session.rule (state w).book job p (keys (listed r))

      turnless : Turnless (rectangle_refusals w job p r)
      turnless = (zeros, (zeros, (zeros, (zeros, (zeros, (zeros, (held_turnless held, (zeros, (zeros, (zeros, tt))))))))))

  held_among : (o : Option Signature) → member (refuse_held o).says.number refusing_rectangle ≡ true
  held_among none = refl
  held_among (some j) = refl

  pub told_among : (rectangle_call w job sheet change r).told.number ≢ 0 → member (rectangle_call w job sheet change r).told.number refusing_rectangle ≡ true
  unfolding rectangle_call
  told_among =
      decided_among refusing_rectangle (rectangle_refusals w job p r) (covered r)
      (refl, (refl, (refl, (refl, (refl, (refl, (held_among (first_held w.session.rule (state w).book job p (keys (listed r))), (refl, (refl, (refl, tt)))))))))) refl

  -- told 0 is that no refusal applies
  pub rectangle_accepted : ((rectangle_call w job sheet change r).told.number ≡ 0) ↔ Passed (rectangle_refusals w job p r)
  unfolding rectangle_call
  rectangle_accepted = told_zero (rectangle_refusals w job p r) (covered r) (numbered_rectangle w job p r) refl

  -- what it passed, by name
  record Accepted : Type 0 where
    serves : Serves w job
    shaped : Shaped r
    whole_list : Passed (list_refusals w job p (keys (listed r)))

  accepted_is : ((rectangle_call w job sheet change r).told.number ≡ 0) ↔ Accepted
  accepted_is =
      let v = serves_is w job in (
        λ ok. let h = rectangle_accepted.0 ok in
            record {
              serves = v.0 (h.0, (h.1.0, (h.1.1.0, tt)));
              shaped = record { of_edition = not-false _ h.1.1.1.0; in_range = h.1.1.1.1.0; well_formed = h.1.1.1.1.1.0 };
              whole_list = h.1.1.1.1.1.1;
            },
        λ c. let h = v.1 c.serves in
            rectangle_accepted.1 (h.0, (h.1.0, (h.1.1.0, (ap not c.shaped.of_edition, (c.shaped.in_range, (c.shaped.well_formed, c.whole_list)))))),
      )

  pub done_shaped : (rectangle_call w job sheet change r).told.number ≡ 0 → Shaped r
  done_shaped ok = (accepted_is.0 ok).shaped

  pub rectangle_serves : (rectangle_call w job sheet change r).told.number ≡ 0 → Serves w job
  rectangle_serves ok = (accepted_is.0 ok).serves

  -- and what it leaves
  left_carried_all : (rectangle_call w job sheet change r).told.number ≡ 0 → (rectangle_call w job sheet change r).after ≡ carried_all w job sheet p (keys (listed r))
  unfolding rectangle_call
  left_carried_all ok = ap (λ n. cond (eqb n 0) (carried_all w job sheet p (keys (listed r))) w) ok

  pub passed_fits : (rectangle_call w job sheet change r).told.number ≡ 0 → Fits w job p (keys (listed r))
  passed_fits ok =
      let l = (accepted_is.0 ok).whole_list in
      record {
        ready = rectangle_serves ok;
        unheld = not_held (first_held w.session.rule (state w).book job p (keys (listed r))) l.0;
        places = ltb-false _ _ l.1.0;
        slots = ltb-false _ _ l.1.1.0;
        bytes = ltb-false _ _ l.1.1.1.0;
      }

  pub fits_passed : Shaped r → Fits w job p (keys (listed r)) → (rectangle_call w job sheet change r).told.number ≡ 0
  fits_passed s f =
      accepted_is.1 (record {
        serves = f.ready;
        shaped = s;
        whole_list = (ap (λ o. (refuse_held o).applies) f.unheld, (le-ltb _ _ f.places, (le-ltb _ _ f.slots, (le-ltb _ _ f.bytes, tt))));
      })

  module _ (full : length w.session.marks ≡ 64) (s : Shaped r) where
    -- the list has a first tile
    not_empty : AllDone w (calls_of job sheet change r) → Serves w job
    not_empty = go (area r) (mul-le-mul (extent r s).wide (extent r s).tall)
      where
        go : (n : ℕ) → 1 ≤ n → AllDone w (operations job sheet p (sequence (tile_at r) 0 n)) → Serves w job
        go zero l d = absurd (omega arith)
        go (suc n) l d = done_ready w job sheet p (tile_at r 0) d.0

    pub whole_done : ((rectangle_call w job sheet change r).told.number ≡ 0) ↔ AllDone w (calls_of job sheet change r)
    whole_done = (
      λ ok. (fits_done job sheet p (listed r) w (all_apart r s) (all_placed r s) full (passed_fits ok)).0,
      λ d. fits_passed s (done_fits job sheet p (listed r) w (all_apart r s) full (not_empty d) d),
    )

    pub whole_leaves : (rectangle_call w job sheet change r).told.number ≡ 0 → (rectangle_call w job sheet change r).after ≡ left_by w (calls_of job sheet change r)
    whole_leaves ok =
        left_carried_all ok ∙ sym (fits_done job sheet p (listed r) w (all_apart r s) (all_placed r s) full (passed_fits ok)).1

-- WRITTEN OUT
module _ {by : Rule} {tiles : List ℕ} {count : ℕ} {operations journal : List ℕ} where
  from_all : {cs : Log Call} {w : World} (ds : List Call) → From by tiles count operations journal cs w → AllDone w ds
      → From by tiles count operations journal (followed cs ds) (left_by w ds)
  from_all [] f d = f
  from_all {cs = cs} (c ∷ ds) f d = from_all {cs = cs ▷ c} ds (called f c d.0) d.1

  pub moves_written : {ms : Log Move} {w : World} → FromMoves by tiles count operations journal ms w → From by tiles count operations journal (written ms) w
  moves_written (starting e) = started e
  moves_written (went f (plain c) ok) = called (moves_written f) c ok
  moves_written (went {ms = ms} {w = w} f (rectangle job sheet change r) ok) =
      let g = moves_written f in
      let s = done_shaped w job sheet change r ok in
      let full = all_marks g in
      subst (From by tiles count operations journal (followed (written ms) (calls_of job sheet change r))) (sym (whole_leaves w job sheet change r full s ok))
      (from_all (calls_of job sheet change r) g ((whole_done w job sheet change r full s).0 ok))
