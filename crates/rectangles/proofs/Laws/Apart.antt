-- An operation on one tile changes nothing for the operations on others, by either rule
use Rattle.std.specs.Prelude.{◌&&◌, ◌||◌, false, not, true, List, [], ◌++◌, ◌∷◌, ◌≢◌, ◌≡◌, refl, ◌+◌, ℕ, eqb}
use Rattle.std.proofs.Math.Bool.{and-false, or-false}
use Rattle.std.proofs.Math.Option.{none}
use Rattle.std.proofs.Common.{◌∙◌, ap, ap₂, sym, ne_eqb}
use Rattle.lists.specs.Lists.{All}
use Rattle.lists.specs.Truth.{one_if}
use Rattle.strict.specs.Book.{Book, deleted, held_by, needs_place, step}
use Rattle.strict.specs.Commutativity.{changes, commutes, holder, holds}
use Rattle.strict.specs.Histories.{operation}
use Rattle.strict.proofs.Laws.Counted.{deleted_last}
use Rattle.strict.proofs.Laws.Holding.{rows}
use Rattle.strict.proofs.Laws.Members.{member_apply, touch}
use Rattle.strict.proofs.Laws.Undoing.{touch_off}
use Rattle.strict.specs.Operations.{Op, Step, begun, clear, effect, inverse, kind, of_sheet, put, skip}
use Rattle.strict.specs.Tiles.{member}
use Rattle.strict.specs.declared.Procedure.{Procedure}
use Rattle.strict.specs.declared.Rule.{Rule}
use Rattle.strict.specs.declared.Rule.TheVariants.{Alone, Together}
use Rattle.rectangles.specs.Rectangles.{first_held, first_of, needed}

-- an entry on another tile holds nothing
pub holds_not : (r : Rule) (o u : Op) → o.key ≢ u.key → holds r o u ≡ false
holds_not Alone o u d = ap (λ b. not (commutes (kind o.proc o.found) (inverse u) b)) (ne_eqb o.key u.key d) ∙ ap not (go (inverse u))
  where
    go : (s : Step) → commutes (kind o.proc o.found) s false ≡ true
    go put = (rows o.proc o.found).put_other
    go clear = (rows o.proc o.found).clear_other
    go skip = (rows o.proc o.found).skips false
holds_not Together o u d =
    ap (λ b. not (eqb u.job o.job) && (changes (inverse u) && b)) (ne_eqb o.key u.key d)
    ∙ ap (λ b. not (eqb u.job o.job) && b) (and-false (changes (inverse u)))
    ∙ and-false (not (eqb u.job o.job))

holder_before : (r : Rule) (o u : Op) (us : List Op) → holds r o u ≡ false → holder r o (us ++ (u ∷ [])) ≡ holder r o us
holder_before r o u [] e = rw e
holder_before r o u (x ∷ us) e = rw (holder_before r o u us e)

-- and is no reason to count a tile, nor not to
needs_before : (r : Rule) (o u : Op) (us : List Op) → o.key ≢ u.key → needs_place r (us ++ (u ∷ [])) o ≡ needs_place r us o
needs_before Alone o u us d = refl
needs_before Together o u us d =
    let three = eqb (kind u.proc u.found) 3 in
    ap (λ b. eqb (kind o.proc o.found) 1 && not b)
    (deleted_last o.key us u
    ∙ ap (λ b. deleted o.key us || (three && b)) (ne_eqb o.key u.key d)
    ∙ ap (λ b. deleted o.key us || b) (and-false three)
    ∙ or-false (deleted o.key us))

module _ (r : Rule) (m : Book) (job sheet : ℕ) (p : Procedure) (k : ℕ) where
  abbrev next : Book
  next = step m (operation job sheet p k)

  begun_same : (i : ℕ) → k ≢ i → begun job p i next.tiles ≡ begun job p i m.tiles
  begun_same i d =
      ap (λ b. record { job = job; proc = p; key = i; found = b; done = false; sheet = 0 })
      (member_apply (effect p) i k m.tiles ∙ ap (λ b. touch (effect p) b (member i m.tiles)) (ne_eqb i k (λ e. d (sym e))) ∙ touch_off (effect p) (member i m.tiles))

  pub held_same : (i : ℕ) → k ≢ i → held_by r next job p i ≡ held_by r m job p i
  held_same i d =
      ap (λ o. holder r o next.table) (begun_same i d)
      ∙ holder_before r (begun job p i m.tiles) (of_sheet sheet (begun job p k m.tiles)) m.table (holds_not r (begun job p i m.tiles) (of_sheet sheet (begun job p k m.tiles)) (λ e. d (sym e)))

  pub first_held_same : (ks : List ℕ) → All (λ i. k ≢ i) ks → first_held r next job p ks ≡ first_held r m job p ks
  first_held_same [] d = refl
  first_held_same (i ∷ ks) d = ap₂ first_of (held_same i d.0) (first_held_same ks d.1)

  pub needed_same : (ks : List ℕ) → All (λ i. k ≢ i) ks → needed r next job p ks ≡ needed r m job p ks
  needed_same [] d = refl
  needed_same (i ∷ ks) d =
      ap₂ (λ b n. one_if b + n)
      (ap (needs_place r next.table) (begun_same i d.0)
      ∙ needs_before r (begun job p i m.tiles) (of_sheet sheet (begun job p k m.tiles)) m.table (λ e. d.0 (sym e)))
      (needed_same ks d.1)

  -- none of others is held before just where none is held afterwards
  pub free_then : (ks : List ℕ) → All (λ i. k ≢ i) ks → All (λ i. held_by r m job p i ≡ none) ks → All (λ i. held_by r next job p i ≡ none) ks
  free_then [] d h = tt
  free_then (i ∷ ks) d h = (held_same i d.0 ∙ h.0, free_then ks d.1 h.1)

  pub free_before : (ks : List ℕ) → All (λ i. k ≢ i) ks → All (λ i. held_by r next job p i ≡ none) ks → All (λ i. held_by r m job p i ≡ none) ks
  free_before [] d h = tt
  free_before (i ∷ ks) d h = (sym (held_same i d.0) ∙ h.0, free_before ks d.1 h.1)
