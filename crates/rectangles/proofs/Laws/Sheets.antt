-- Rectangles and sheets: only a hold names one, and nothing else depends on them
use Rattle.std.specs.Prelude.{false, not, List, [], ◌∷◌, map, ◌≢◌, ◌≡◌, refl, ◌*◌, ◌+◌, ℕ, ltb, get_or, length}
use Rattle.std.proofs.Math.Option.{Option, none, some}
use Rattle.std.proofs.Common.{◌∙◌, ap, ap₂, sym}
use Rattle.lists.specs.Truth.{one_if}
use Rattle.strict.specs.Book.{Book, held_by, places_taken}
use Rattle.strict.specs.Commutativity.{Signature}
use Rattle.strict.proofs.Laws.Sheets.{held_sheetless, needs_sheetless, taken_sheetless}
use Rattle.strict.specs.Operations.{begun}
use Rattle.strict.specs.Sheets.{sheetless_book, sheetless_by}
use Rattle.strict.specs.declared.Procedure.{Procedure}
use Rattle.strict.specs.declared.Rule.{Rule}
use Rattle.service.specs.Admission.{State, open_marks}
use Rattle.service.specs.Claims.{sheetless_told}
use Rattle.service.proofs.Laws.Sheets.{Alike, decided_no_sheet, decided_sheetless, hold_or_sheetless, hold_sheetless, long, marks, sheetless_refusal, sheetless_state}
use Rattle.service.specs.Limits.{last_job, operation_size, short_size}
use Rattle.service.specs.Told.{decided, refuse, refuse_held}
use Rattle.service.specs.World.{World, state}
use Rattle.rectangles.specs.declared.Change.{Change}
use Rattle.rectangles.specs.declared.Rectangle.{Rectangle}
use Rattle.rectangles.specs.Rectangles.{covered, first_held, first_of, keys, listed, misnamed, misshapen, needed, out_of_range, procedure_for, rectangle_call, rectangle_refusals}

first_sheetless : (a b : Option Signature) → sheetless_by (first_of a b) ≡ first_of (sheetless_by a) (sheetless_by b)
first_sheetless none b = refl
first_sheetless (some by) b = refl

first_held_sheetless : (r : Rule) (m : Book) (job : ℕ) (p : Procedure) (ks : List ℕ) → sheetless_by (first_held r m job p ks) ≡ first_held r (sheetless_book m) job p ks
first_held_sheetless r m job p [] = refl
first_held_sheetless r m job p (k ∷ ks) =
    first_sheetless (held_by r m job p k) (first_held r m job p ks) ∙ ap₂ first_of (held_sheetless r m job p k) (first_held_sheetless r m job p ks)

needed_sheetless : (r : Rule) (m : Book) (job : ℕ) (p : Procedure) (ks : List ℕ) → needed r (sheetless_book m) job p ks ≡ needed r m job p ks
needed_sheetless r m job p [] = refl
needed_sheetless r m job p (k ∷ ks) = ap₂ (λ b n. one_if b + n) (needs_sheetless r m.table (begun job p k m.tiles)) (needed_sheetless r m job p ks)

pub rectangle_no_sheet : (w : World) (job sheet : ℕ) (change : Change) (r : Rectangle) → (rectangle_call w job sheet change r).told.number ≢ 6 → (rectangle_call w job sheet change r).told.sheet ≡ 0
unfolding rectangle_call
rectangle_no_sheet w job sheet change r =
    let p = procedure_for change in
    let held = hold_or_sheetless (first_held w.session.rule (state w).book job p (keys (listed r))) in
    decided_no_sheet (rectangle_refusals w job p r) (covered r)
    (λ n. refl, (λ n. refl, (λ n. refl, (λ n. refl, (λ n. refl, (λ n. refl, (held, (λ n. refl, (λ n. refl, (λ n. refl, tt))))))))))
    refl

module _ {w v : World} (alike : Alike w v) (job : ℕ) (p : Procedure) (r : Rectangle) where
  abbrev ks : List ℕ
  ks = keys (listed r)

  abbrev first_in : State → Option Signature
  first_in x = first_held x.rule x.book job p ks

  abbrev taken_in : State → ℕ
  taken_in x = places_taken x.rule x.book + needed x.rule x.book job p ks

  hold_without : (x : State) → sheetless_refusal (refuse_held (first_in x)) ≡ refuse_held (first_in (sheetless_state x))
  hold_without x = hold_sheetless (first_in x) ∙ ap refuse_held (first_held_sheetless x.rule x.book job p ks)

  hold : sheetless_refusal (refuse_held (first_in (state w))) ≡ sheetless_refusal (refuse_held (first_in (state v)))
  hold = hold_without (state w) ∙ ap (λ x. refuse_held (first_in x)) alike.same_state ∙ sym (hold_without (state v))

  taken_without : (x : State) → taken_in (sheetless_state x) ≡ taken_in x
  taken_without x = ap₂ (λ m n. m + n) (taken_sheetless x.rule x.book) (needed_sheetless x.rule x.book job p ks)

  taken : taken_in (state w) ≡ taken_in (state v)
  taken = sym (taken_without (state w)) ∙ ap taken_in alike.same_state ∙ taken_without (state v)

  pub same_rectangle_refusals : map sheetless_refusal (rectangle_refusals w job p r) ≡ map sheetless_refusal (rectangle_refusals v job p r)
  same_rectangle_refusals = λ i.
      refuse 1 (not (alike.same_sound i)) ∷ refuse 2 (ltb last_job job) ∷ refuse 3 (not (get_or (marks alike i) job false))
      ∷ refuse 14 (misnamed r) ∷ refuse 5 (out_of_range r) ∷ refuse 13 (misshapen r)
      ∷ hold i ∷ refuse 7 (ltb (alike.same_places i) (taken i)) ∷ refuse 8 (ltb (alike.same_slots i) (long alike i + length ks))
      ∷ refuse 9 (ltb (alike.same_free i) (operation_size * length ks + short_size * open_marks (marks alike i))) ∷ []

pub rectangle_told_alike : {w v : World} → Alike w v → (job : ℕ) (one other : ℕ) (change : Change) (r : Rectangle)
    → sheetless_told (rectangle_call w job one change r).told ≡ sheetless_told (rectangle_call v job other change r).told
unfolding rectangle_call
rectangle_told_alike {w} {v} alike job one other change r =
    let p = procedure_for change in
    decided_sheetless (rectangle_refusals w job p r) (covered r)
    ∙ ap (λ rs. decided rs (covered r)) (same_rectangle_refusals alike job p r)
    ∙ sym (decided_sheetless (rectangle_refusals v job p r) (covered r))
