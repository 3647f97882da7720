-- The first entry that holds an operation, and whose it is
use Rattle.std.specs.Prelude.{List, Option, None, Some, Ok, Err, ◌≡◌, ◌<◌, ℕ, get_or, length}
use Rattle.std.proofs.Common.{◌∙◌, ap, sym}
use Rattle.service.specs.Entry.{job_in, sheet_in}
use Rattle.strict.specs.Book.{held_by}
use Rattle.strict.specs.Operations.{kind}
use Rattle.strict.specs.Tiles.{member}
use Rattle.strict.specs.declared.Procedure.{Procedure}
use Rattle.strict.specs.declared.Rule.{Rule}
use Rattle.tiles.specs.Table.{spot_of}
use Rattle.tiles.specs.declared.Spot.{Spot}
use Rattle.entries.specs.Laws.{place_inside, signed_at}
use Rattle.entries.specs.Table.{first_place}
use Rattle.rules.specs.Laws.{held_place}
use Rattle.rules.specs.Rules.{holds_by}
use Rattle.admission.specs.Verdicts.{book_of, unheld_of}

-- t are the keys of the tiles, es the entries, x is what the search found, and h is the place of the first entry that holds
module _ (r : Rule) (t es : List ℕ) (job : ℕ) (p : Procedure) (k : ℕ) {x : Spot} {n : ℕ} {h : Option ℕ} where
  module _ (found : x ≡ spot_of k t) (of_kind : n ≡ kind p x.there) (is : h ≡ first_place (holds_by r job n k) es) where
    holder_there : held_by r (book_of t es) job p k ≡ signed_at es h
    holder_there =
        let same : n ≡ kind p (member k t) = of_kind ∙ ap (λ (y : Spot). kind p y.there) found in
        held_place job p k t r es ∙ ap (signed_at es) (ap (λ m. first_place (holds_by r job m k) es) (sym same) ∙ sym is)

    pub nobody_holds : h ≡ None → Ok x ≡ unheld_of r (book_of t es) job p k
    unfolding unheld_of
    nobody_holds none_is = rw (holder_there, none_is, found)

    module _ {i : ℕ} (there : h ≡ Some i) where
      pub holder_used : i < length es
      holder_used = place_inside _ es (sym is ∙ there)

      pub somebody_holds : {by from : ℕ} → by ≡ job_in (get_or es i 0) → from ≡ sheet_in (get_or es i 0)
          → Err (record { job = by; sheet = from }) ≡ unheld_of r (book_of t es) job p k
      unfolding unheld_of
      somebody_holds by_is from_is = rw (holder_there, there, by_is, from_is)
