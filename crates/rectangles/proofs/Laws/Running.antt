-- Room that runs out where a list is taken tile after tile: the counts say when
use Rattle.std.specs.Prelude.{Bool, ◌&&◌, ◌||◌, false, true, List, [], ◌∷◌, ◌≡◌, refl, ◌*◌, ◌+◌, ◌-◌, ◌≤◌, suc, ℕ, eqb, ltb, length}
use Rattle.std.proofs.Common.{◌∙◌, ap, sym, arith, length-append, eqb-true, le-ltb, lt-ltb, ltb-false, ltb-true}
use Rattle.std.proofs.lemmas.Bool.{eqb-false}
use Rattle.lists.specs.Truth.{both, one_if}
use Rattle.strict.specs.Book.{Book, needs_place, places_taken, step}
use Rattle.strict.specs.Histories.{operation}
use Rattle.strict.proofs.Laws.Members.{ascending_apply}
use Rattle.strict.proofs.Laws.Room.{room_operation}
use Rattle.strict.specs.Operations.{begun, effect, of_sheet}
use Rattle.strict.specs.Tiles.{Ascending}
use Rattle.strict.specs.declared.Procedure.{Procedure}
use Rattle.strict.specs.declared.Rule.{Rule}
use Rattle.service.proofs.Laws.Standing.{room_left}
use Rattle.service.specs.Limits.{operation_size, short_size}
use Rattle.rectangles.specs.Claims.{Apart, bytes_run_out, places_run_out, slots_run_out}
use Rattle.rectangles.proofs.Laws.Apart.{needed_same}
use Rattle.rectangles.specs.Rectangles.{needed}

-- one turn: a tile that needs a place or not, where n of the places are taken, and `rest` tells of the later ones
places_turn : (b : Bool) (n places more : ℕ) (rest : Bool) → n ≤ places → (n + one_if b ≤ places → rest ≡ ltb places (n + (one_if b + more)))
    → (b && eqb n places) || rest ≡ ltb places (n + (one_if b + more))
places_turn b n places more rest l ih = go (b && eqb n places) refl
  where
    go : (c : Bool) → b && eqb n places ≡ c → c || rest ≡ ltb places (n + (one_if b + more))
    go true e =
        let h = both b (eqb n places) e in
        let q = eqb-true n places h.1 in
        let one : one_if b ≡ 1 = ap one_if h.0 in
        sym (lt-ltb places (n + (one_if b + more)) (omega arith))
    go false e = ih (room_left b places n e l)

module _ (rule : Rule) (job sheet : ℕ) (p : Procedure) where
  pub places_run_out_lem : (places : ℕ) (ks : List ℕ) (m : Book) → Apart ks → Ascending m.tiles → places_taken rule m ≤ places
      → places_run_out rule places m job sheet p ks ≡ ltb places (places_taken rule m + needed rule m job p ks)
  places_run_out_lem places [] m apart asc l = sym (le-ltb places (places_taken rule m + 0) (omega arith))
  places_run_out_lem places (k ∷ ks) m apart asc l =
      let n = step m (operation job sheet p k) in
      let grown = room_operation rule m job sheet p k asc in
      let same = needed_same rule m job sheet p k ks apart.0 in
      places_turn (needs_place rule m.table (begun job p k m.tiles)) (places_taken rule m) places (needed rule m job p ks) (places_run_out rule places n job sheet p ks) l
      (λ f.
      places_run_out_lem places ks n apart.1 (ascending_apply (effect p) k m.tiles asc) (omega arith)
      ∙ ap (λ x. ltb places x) (omega arith))

  pub slots_run_out_lem : (slots : ℕ) (ks : List ℕ) (m : Book) → length m.table ≤ slots
      → slots_run_out slots m job sheet p ks ≡ ltb slots (length m.table + length ks)
  slots_run_out_lem slots [] m l = sym (le-ltb slots (length m.table + 0) (omega arith))
  slots_run_out_lem slots (k ∷ ks) m l =
      let g = length-append m.table (of_sheet sheet (begun job p k m.tiles) ∷ []) in
      go (eqb (length m.table) slots) refl
      (λ f. slots_run_out_lem slots ks (step m (operation job sheet p k)) (omega arith) ∙ ap (λ x. ltb slots x) (omega arith))
    where
      go : (c : Bool) → eqb (length m.table) slots ≡ c
          → (suc (length m.table) ≤ slots → slots_run_out slots (step m (operation job sheet p k)) job sheet p ks ≡ ltb slots (length m.table + suc (length ks)))
          → c || slots_run_out slots (step m (operation job sheet p k)) job sheet p ks ≡ ltb slots (length m.table + suc (length ks))
      go true e ih = let q = eqb-true (length m.table) slots e in sym (lt-ltb slots (length m.table + suc (length ks)) (omega arith))
      go false e ih = let q : length m.table ≡ slots → ⊥ = eqb-false (length m.table) slots e in ih (omega arith)

pub bytes_run_out_lem : (free n : ℕ) (ks : List ℕ) → short_size * n ≤ free → bytes_run_out free n ks ≡ ltb free (operation_size * length ks + short_size * n)
bytes_run_out_lem free n [] l = sym (le-ltb free (operation_size * 0 + short_size * n) (omega arith))
bytes_run_out_lem free n (k ∷ ks) l = go (ltb free (operation_size + short_size * n)) refl (λ f. bytes_run_out_lem (free - operation_size) n ks (omega arith))
  where
    go : (c : Bool) → ltb free (operation_size + short_size * n) ≡ c
        → (operation_size + short_size * n ≤ free → bytes_run_out (free - operation_size) n ks ≡ ltb (free - operation_size) (operation_size * length ks + short_size * n))
        → c || bytes_run_out (free - operation_size) n ks ≡ ltb free (operation_size * suc (length ks) + short_size * n)
    go true e ih = let q = ltb-true free (operation_size + short_size * n) e in sym (lt-ltb free (operation_size * suc (length ks) + short_size * n) (omega arith))
    go false e ih = let q = ltb-false free (operation_size + short_size * n) e in ih q ∙ shifted (ltb (free - operation_size) (operation_size * length ks + short_size * n)) refl
      where
        shifted : (d : Bool) → ltb (free - operation_size) (operation_size * length ks + short_size * n) ≡ d → d ≡ ltb free (operation_size * suc (length ks) + short_size * n)
        shifted true f = let g = ltb-true (free - operation_size) (operation_size * length ks + short_size * n) f in sym (lt-ltb free (operation_size * suc (length ks) + short_size * n) (omega arith))
        shifted false f = let g = ltb-false (free - operation_size) (operation_size * length ks + short_size * n) f in let q = ltb-false free (operation_size + short_size * n) e in sym (le-ltb free (operation_size * suc (length ks) + short_size * n) (omega arith))
