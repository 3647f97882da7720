-- What the tables of a sound world are, and what each verdict rests on
use Rattle.std.specs.Prelude.{Bool, ◌&&◌, cond, Result, Ok, Err, map, ◌≡◌, ◌+◌, ◌≤◌, ℕ, eqb, length}
use Rattle.std.proofs.Math.Bool.{false, true}
use Rattle.std.proofs.Math.Option.{Option, none, some}
use Rattle.std.proofs.Common.{◌∙◌, ap₂, subst, sym, arith, length-take-le}
use Rattle.std.proofs.Math.Path.{refl}
use Rattle.std.proofs.lemmas.List.{length-map}
use Rattle.entries.specs.Table.{EntryTable}
use Rattle.service.specs.Admission.{State}
use Rattle.service.specs.Entry.{op_in}
use Rattle.service.proofs.Laws.Storing.{padded_zeros}
use Rattle.service.specs.Sound.{Tabled}
use Rattle.service.specs.World.{World, state, used_operations, used_tiles}
use Rattle.strict.specs.Book.{Book, counted, held_by, needs_place, places_taken}
use Rattle.strict.specs.Commutativity.{Signature}
use Rattle.strict.proofs.Laws.Room.{room_either}
use Rattle.strict.specs.Operations.{begun, kind}
use Rattle.strict.specs.declared.Procedure.{Procedure}
use Rattle.strict.specs.declared.Rule.{Rule}
use Rattle.search.specs.Laws.{zeros_table}
use Rattle.search.specs.Table.{TileTable}
use Rattle.tiles.specs.Table.{spot_of}
use Rattle.tiles.specs.declared.Spot.{Spot}
use Rattle.admission.specs.Verdicts.{by_holder, held_or, unheld_of, verdict_of}
use Rattle.admission.specs.declared.Holder.{Holder}
use Rattle.rules.specs.Laws.{place_wanted}
use Rattle.rules.specs.Rules.{wants_place}
use Rattle.admission.specs.declared.Hindrance.TheVariants.{Held, NoOperationRoom, NoTileRoom}
use Rattle.admission.specs.declared.Hindrance.{Hindrance}

module _ (w : World) (o : Tabled w) where
  pub tile_table : TileTable w.tiles w.session.tiles
  tile_table = zeros_table w.session.tiles w.tiles o.tiles_fit o.ascending o.tiles_rest

  pub entry_table : EntryTable w.operations w.session.operations
  entry_table = record { fits = o.operations_fit; zeros_behind = padded_zeros w.session.operations w.operations o.operations_fit o.operations_rest }

  pub tiles_count : length (used_tiles w) ≡ w.session.tiles
  tiles_count = length-take-le w.session.tiles w.tiles o.tiles_fit

  pub operations_count : length (map op_in (used_operations w)) ≡ w.session.operations
  operations_count = length-map (used_operations w) op_in ∙ length-take-le w.session.operations w.operations o.operations_fit

  -- the places that are taken, by the counts that the session holds
  pub places_taken_lem : places_taken w.session.rule (state w).book ≡ w.session.tiles + w.session.spoken
  places_taken_lem = ap₂ (λ m n. m + n) tiles_count (sym o.spoken_counted)

  -- there is room for the tiles with those that are counted, whichever the rule
  pub room_there : length (used_tiles w) + counted (used_tiles w) (map op_in (used_operations w)) ≤ length w.tiles
  room_there = omega (arith, room_either w.session.rule (state w).book, o.room)

-- what is found where nobody holds, and who holds
module _ (b : Rule) (m : Book) (job : ℕ) (p : Procedure) (k : ℕ) where
  abbrev pub Finds : Result Spot Holder → Type 0
  Finds (Err by) = held_by b m job p k ≡ some (record { job = by.job; sheet = by.sheet })
  Finds (Ok x) = (held_by b m job p k ≡ none) × (x ≡ spot_of k m.tiles)

  finds : Finds (unheld_of b m job p k)
  unfolding unheld_of
  finds = go (held_by b m job p k) refl
    where
      go : (o : Option Signature) → held_by b m job p k ≡ o → Finds (held_or o (spot_of k m.tiles))
      go (some by) e = e
      go none e = (e, refl)

  pub found_so : (v u : Result Spot Holder) → v ≡ unheld_of b m job p k → v ≡ u → Finds u
  found_so v u is seen = subst Finds (sym is ∙ seen) finds

-- each verdict
module _ (places slots : ℕ) (s : State) (job : ℕ) (p : Procedure) (k : ℕ) where
  abbrev pub the_holder : Option Signature
  the_holder = held_by s.rule s.book job p k

  abbrev pub lacks_place : Bool
  lacks_place = needs_place s.rule s.book.table (begun job p k s.book.tiles) && eqb (places_taken s.rule s.book) places

  abbrev pub lacks_slot : Bool
  lacks_slot = eqb (length s.book.table) slots

  pub held : (by : Holder) → Finds s.rule s.book job p k (Err by) → Err (Held by) ≡ verdict_of places slots s job p k
  unfolding verdict_of
  held by h = rw h

  -- n is the kind that what is found gives, and b says whether a place is lacked by it
  module _ (x : Spot) (found : Finds s.rule s.book job p k (Ok x)) {n : ℕ} {b : Bool} (of_kind : n ≡ kind p x.there)
      (is : b ≡ (wants_place s.rule s.book.table n k && eqb (places_taken s.rule s.book) places)) where
    lacking : lacks_place ≡ b
    lacking = rw (place_wanted job p k s.book.tiles s.rule s.book.table, is, of_kind, found.1)

    pub no_place : b ≡ true → Err NoTileRoom ≡ verdict_of places slots s job p k
    unfolding verdict_of
    no_place h = rw (found.0, lacking ∙ h)

    module _ (place : b ≡ false) where
      pub no_slot : lacks_slot ≡ true → Err NoOperationRoom ≡ verdict_of places slots s job p k
      unfolding verdict_of
      no_slot h = rw (found.0, lacking ∙ place, h)

      pub admitted : lacks_slot ≡ false → Ok x ≡ verdict_of places slots s job p k
      unfolding verdict_of
      admitted h = rw (found.0, lacking ∙ place, h, found.1)

  -- what a verdict means
  abbrev pub Means : Result Spot Hindrance → Type 0
  Means (Err (Held by)) = the_holder ≡ some (record { job = by.job; sheet = by.sheet })
  Means (Err NoTileRoom) = (the_holder ≡ none) × (lacks_place ≡ true)
  Means (Err NoOperationRoom) = (the_holder ≡ none) × (lacks_place ≡ false) × (lacks_slot ≡ true)
  Means (Ok x) = (the_holder ≡ none) × (lacks_place ≡ false) × (lacks_slot ≡ false) × (x ≡ spot_of k s.book.tiles)

  verdict_means : Means (verdict_of places slots s job p k)
  unfolding verdict_of
  verdict_means = go the_holder refl lacks_place refl lacks_slot refl
    where
      go : (o : Option Signature) → the_holder ≡ o → (a : Bool) → lacks_place ≡ a → (b : Bool) → lacks_slot ≡ b
          → Means (by_holder o (cond a (Err NoTileRoom) (cond b (Err NoOperationRoom) (Ok (spot_of k s.book.tiles)))))
      go (some by) x a y b z = x
      go none x true y b z = (x, y)
      go none x false y true z = (x, y, z)
      go none x false y false z = (x, y, z, refl)

  pub verdict_seen : (v u : Result Spot Hindrance) → v ≡ verdict_of places slots s job p k → v ≡ u → Means u
  verdict_seen v u is seen = subst Means (sym is ∙ seen) verdict_means
