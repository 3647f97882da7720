-- Nothing looks at a sheet
use Rattle.std.specs.Prelude.{Bool, ◌&&◌, ◌||◌, cond, false, not, true, List, [], ◌++◌, ◌∷◌, map, ◌≡◌, refl, ◌+◌, ℕ, eqb, length}
use Rattle.std.proofs.Math.Option.{Option, some}
use Rattle.std.proofs.Common.{◌∙◌, ap, ap₂, sym}
use Rattle.lists.specs.Truth.{one_if}
use Rattle.strict.specs.Book.{Book, counted, deleted, held_by, needs_place, others, places_taken, recover, reserved, step}
use Rattle.strict.specs.Commutativity.{Signature, holder, holds, signature_of}
use Rattle.strict.specs.Histories.{Event, abort, commit, mine, open_job, operation}
use Rattle.strict.specs.Operations.{Op, begun, kind, of_sheet, undo}
use Rattle.strict.specs.Sheets.{sheetless, sheetless_book, sheetless_by, sheetless_event}
use Rattle.strict.specs.Tiles.{member}
use Rattle.strict.specs.declared.Procedure.{Procedure}
use Rattle.strict.specs.declared.Rule.TheVariants.{Alone, Together}
use Rattle.strict.specs.declared.Rule.{Rule}

-- WHO HOLDS
by_cases : (b : Bool) (x y : Option Signature) → sheetless_by (cond b x y) ≡ cond b (sheetless_by x) (sheetless_by y)
by_cases true x y = refl
by_cases false x y = refl

holder_sheetless : (r : Rule) (o : Op) (us : List Op) → sheetless_by (holder r o us) ≡ holder r o (map sheetless us)
holder_sheetless r o [] = refl
holder_sheetless Alone o (u ∷ us) =
    by_cases (holds Alone o u) (some (signature_of u)) (holder Alone o us) ∙ ap (cond (holds Alone o u) (some (signature_of (sheetless u)))) (holder_sheetless Alone o us)
holder_sheetless Together o (u ∷ us) =
    by_cases (holds Together o u) (some (signature_of u)) (holder Together o us) ∙ ap (cond (holds Together o u) (some (signature_of (sheetless u)))) (holder_sheetless Together o us)

-- ROOM
deleted_sheetless : (k : ℕ) (us : List Op) → deleted k (map sheetless us) ≡ deleted k us
deleted_sheetless k [] = refl
deleted_sheetless k (u ∷ us) = ap (λ b. (eqb (kind u.proc u.found) 3 && eqb k u.key) || b) (deleted_sheetless k us)

reserved_sheetless : (us : List Op) → reserved (map sheetless us) ≡ reserved us
reserved_sheetless [] = refl
reserved_sheetless (u ∷ us) = ap (λ n. one_if (eqb (kind u.proc u.found) 3) + n) (reserved_sheetless us)

counted_sheetless : (t : List ℕ) (us : List Op) → counted t (map sheetless us) ≡ counted t us
counted_sheetless t [] = refl
counted_sheetless t (u ∷ us) =
    ap₂ (λ b n. one_if (eqb (kind u.proc u.found) 3 && not (member u.key t || b)) + n) (deleted_sheetless u.key us) (counted_sheetless t us)

pub needs_sheetless : (r : Rule) (us : List Op) (o : Op) → needs_place r (map sheetless us) o ≡ needs_place r us o
needs_sheetless Alone us o = refl
needs_sheetless Together us o = ap (λ b. eqb (kind o.proc o.found) 1 && not b) (deleted_sheetless o.key us)

pub taken_sheetless : (r : Rule) (m : Book) → places_taken r (sheetless_book m) ≡ places_taken r m
taken_sheetless Alone m = ap (λ n. length m.tiles + n) (reserved_sheetless m.table)
taken_sheetless Together m = ap (λ n. length m.tiles + n) (counted_sheetless m.tiles m.table)

-- WHAT AN EVENT DOES
others_sheetless : (j : ℕ) (us : List Op) → others j (map sheetless us) ≡ map sheetless (others j us)
others_sheetless j [] = refl
others_sheetless j (u ∷ us) = go (mine j u) (others_sheetless j us)
  where
    go : (b : Bool) → others j (map sheetless us) ≡ map sheetless (others j us)
        → cond b (others j (map sheetless us)) (sheetless u ∷ others j (map sheetless us)) ≡ map sheetless (cond b (others j us) (u ∷ others j us))
    go true e = e
    go false e = ap {B = List Op} (λ l. sheetless u ∷ l) e

recover_sheetless : (j : ℕ) (us : List Op) (t : List ℕ) → recover j (map sheetless us) t ≡ recover j us t
recover_sheetless j [] t = refl
recover_sheetless j (u ∷ us) t = ap (λ x. cond (mine j u) (undo u x) x) (recover_sheetless j us t)

map_last : (us : List Op) (o : Op) → map sheetless (us ++ (o ∷ [])) ≡ map sheetless us ++ (sheetless o ∷ [])
map_last [] o = refl
map_last (u ∷ us) o = ap {B = List Op} (λ l. sheetless u ∷ l) (map_last us o)

pub step_sheetless : (m : Book) (e : Event) → step (sheetless_book m) (sheetless_event e) ≡ sheetless_book (step m e)
step_sheetless m (open_job j) = refl
step_sheetless m (operation j sheet p k) = ap (λ l. record { tiles = (step m (operation j sheet p k)).tiles; table = l }) (sym (map_last m.table (of_sheet sheet (begun j p k m.tiles))))
step_sheetless m (commit j) = ap (λ l. record { tiles = m.tiles; table = l }) (others_sheetless j m.table)
step_sheetless m (abort j) = ap₂ (λ t l. record { tiles = t; table = l }) (recover_sheetless j m.table m.tiles) (others_sheetless j m.table)

pub held_sheetless : (r : Rule) (m : Book) (j : ℕ) (p : Procedure) (k : ℕ) → sheetless_by (held_by r m j p k) ≡ held_by r (sheetless_book m) j p k
held_sheetless r m j p k = holder_sheetless r (begun j p k m.tiles) m.table
