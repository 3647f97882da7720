-- WHICH SHEET PUT THE HOLD THERE: a hold names it, and nothing else depends on sheets
use Rattle.std.specs.Prelude.{List, map, ◌↔◌, ◌≢◌, ◌≡◌, refl, ℕ}
use Rattle.std.proofs.Math.Option.{Option, none, some}
use Rattle.std.proofs.Common.{◌∙◌, ap, sym}
use Rattle.strict.specs.Commutativity.{FirstHolder, Signature}
use Rattle.strict.specs.Operations.{begun}
use Rattle.strict.specs.Strict.{Log}
use Rattle.strict.proofs.Theorems.{first_holder}
use Rattle.strict.specs.declared.Procedure.{Procedure}
use Rattle.strict.specs.declared.Rule.{Rule}
use Rattle.grid.specs.Tile.{key_of}
use Rattle.grid.specs.declared.Address.{Address}
use Rattle.service.specs.Calls.{operation_call, start_call, start_refusals}
use Rattle.service.specs.Claims.{Serves, holder_in, sheetless_told}
use Rattle.service.specs.Entry.{op_in}
use Rattle.service.specs.History.{Call, From, call, for_sheet, for_sheets}
use Rattle.service.proofs.Laws.Deciding.{held_names, told_six}
use Rattle.service.proofs.Laws.Sheets.{accepted_alike, decided_so, from_alike, no_sheet, told_alike}
use Rattle.service.specs.Told.{bare, told_held}
use Rattle.service.specs.World.{World, used_operations, used_tiles}
use Rattle.service.specs.declared.Told.{Told}

-- a hold names job and sheet of the first entry, in admission order, that holds, by either rule
pub held_names_sheet : (w : World) (job sheet : ℕ) (p : Procedure) (a : Address) (k : ℕ) → Serves w job → key_of a ≡ some k → (by : Signature) →
    let t = (operation_call w job sheet p a).told in
    ((t.number ≡ 6) × (t.holder ≡ by.job) × (t.sheet ≡ by.sheet))
    ↔ FirstHolder w.session.rule (begun job p k (used_tiles w)) (map op_in (used_operations w)) by
held_names_sheet w job sheet p a k v has_key_lem by =
    let names = held_names w job sheet p a k v has_key_lem in (
      λ e. (names by).0 (go (holder_in w job p k) refl e),
      λ f. let t = (names by).1 f in (ap (λ (x : Told). x.number) t, ap (λ (x : Told). x.holder) t, ap (λ (x : Told). x.sheet) t),
    )
  where
    go : (o : Option Signature) → holder_in w job p k ≡ o →
        let t = (operation_call w job sheet p a).told in
        (t.number ≡ 6) × (t.holder ≡ by.job) × (t.sheet ≡ by.sheet) → t ≡ told_held by
    go none is e = absurd ((told_six w job sheet p a k v has_key_lem).0 e.0 is)
    go (some one) is e =
        let t = (held_names w job sheet p a k v has_key_lem one).1 ((first_holder w.session.rule (begun job p k (used_tiles w)) (map op_in (used_operations w)) one).0 is) in
        t ∙ (λ i. told_held (record { job = (sym (ap (λ (x : Told). x.holder) t) ∙ e.1) i; sheet = (sym (ap (λ (x : Told). x.sheet) t) ∙ e.2) i }))

-- and every other reply has sheet 0
pub other_sheetless : (w : World) (c : Call) → (call w c).told.number ≢ 6 → (call w c).told.sheet ≡ 0
other_sheetless w c = no_sheet w c

pub start_sheetless : (r : Rule) (tiles : List ℕ) (count : ℕ) (operations journal : List ℕ) → (start_call r tiles count operations journal).told.sheet ≡ 0
unfolding start_call
start_sheetless r tiles count operations journal = decided_so (λ x. x.sheet ≡ 0) (start_refusals r tiles count operations journal) (bare 0) (refl, (refl, tt)) refl

-- what is accepted for some sheets is accepted for any
pub sheets_accepted : {r : Rule} {tiles : List ℕ} {count : ℕ} {operations journal : List ℕ} {cs : Log Call} {w : World}
    → From r tiles count operations journal cs w → (ds : Log Call) → for_sheets 0 cs ≡ for_sheets 0 ds → (v : World) × From r tiles count operations journal ds v
sheets_accepted f ds e = accepted_alike f ds e

-- histories that differ in their sheets alone leave the same tiles, and whatever is called then, for whatever sheet, is told the same but for the sheet that a hold names
pub sheets_apart : {r : Rule} {tiles : List ℕ} {count : ℕ} {operations journal : List ℕ} {cs ds : Log Call} {w v : World}
    → From r tiles count operations journal cs w → From r tiles count operations journal ds v → for_sheets 0 cs ≡ for_sheets 0 ds
    → (used_tiles w ≡ used_tiles v) × ((c : Call) (sheet : ℕ) → sheetless_told (call w c).told ≡ sheetless_told (call v (for_sheet sheet c)).told)
sheets_apart f g e = let alike = from_alike f g e in (alike.same_tiles, λ c sheet. told_alike alike c sheet)
