-- What each test of an operation decides
use Rattle.std.specs.Prelude.{Bool, false, true, Result, Ok, Err, ◌≡◌, refl, ◌*◌, ◌+◌, ℕ, ltb, pos, length, ◌||◌, List, [], ◌++◌, ◌∷◌, eqb}
use Rattle.std.proofs.Common.{ap, sym, ◌∙◌}
use Rattle.std.proofs.lemmas.Bool.{not-false}
use Rattle.strict.specs.declared.Procedure.{Procedure}
use Rattle.service.specs.Admission.{open_marks}
use Rattle.service.specs.Calls.{end_refusals, keyed_refusals, operation_refusals}
use Rattle.service.specs.History.{committing}
use Rattle.service.proofs.Laws.Accepting.{numbered}
use Rattle.service.proofs.Laws.Soundness.{sound_is}
use Rattle.service.proofs.Laws.Telling.{decided_done, unrefused, decided_none}
use Rattle.service.specs.Limits.{operation_size, short_size}
use Rattle.service.specs.Sound.{Sound, sound_B}
use Rattle.service.specs.Told.{decided, done, told, Refusal, refuse, refused}
use Rattle.service.specs.World.{World, free_bytes, state, used_tiles}
use Rattle.service.specs.declared.Reason.TheVariants as reason
use Rattle.service.specs.declared.Done.{Done}
use Rattle.service.specs.declared.Told.{Told}
use Rattle.tiles.specs.declared.Spot.{Spot}
use Rattle.admission.specs.Laws.{Means}
use Rattle.admission.specs.Verdicts.{reason_of}
use Rattle.admission.specs.declared.Hindrance.TheVariants.{Held, NoOperationRoom, NoTileRoom}
use Rattle.admission.specs.declared.Hindrance.{Hindrance}
use Rattle.weighing.specs.Decides.{Judges, Decides}
use Rattle.grid.specs.Tile.{Placed, address_call, placed}
use Rattle.grid.specs.declared.Address.{Address}
use Rattle.grid.specs.declared.Keyed.{Keyed}
use Rattle.grid.specs.declared.Unplaced.TheVariants.{NoEdition, OutOfRange}
use Rattle.service.specs.declared.Reason.{Reason}
use Rattle.tiles.specs.Table.{spot_of}
use Rattle.decisions.specs.Laws.{decided_append, gate_refuses}

-- AN OPERATION WITH A KEY
module _ (w : World) (job : ℕ) (p : Procedure) (k : ℕ) where
  abbrev pub Meaning : Result Spot Hindrance → Type 0
  Meaning v = Means (length w.tiles) (length w.operations) (state w) job p k v

  abbrev no_bytes : Bool
  no_bytes = ltb (free_bytes w) (operation_size + short_size * open_marks w.session.marks)

  pub judges_hindered : (why : Hindrance) → Meaning (Err why) → Judges w job p k (Err (reason_of why))
  judges_hindered (Held by) h = (λ t. rw h, refl)
  judges_hindered NoTileRoom h = (λ t. rw (h.0, h.1), refl)
  judges_hindered NoOperationRoom h = (λ t. rw (h.0, h.1, h.2), refl)

  module _ (x : Spot) (h : Meaning (Ok x)) where
    pub judges_no_bytes : no_bytes ≡ true → Judges w job p k (Err reason.NoJournalRoom)
    judges_no_bytes n = (λ t. rw (h.0, h.1, h.2, n), refl)

    pub judges_perform : no_bytes ≡ false → Judges w job p k (Ok x)
    judges_perform n = (rw (h.0, h.1, h.2, n), h.3)

-- AN OPERATION: where no refusal of an end applies, the tables are sound
pub passed_sound : (w : World) (job : ℕ) (gate : Done) → told (Ok gate) ≡ decided (end_refusals w job) (done false (pos 0)) → Sound w
passed_sound w job gate is =
    let passed = decided_done (end_refusals w job) (done false (pos 0)) (numbered w (committing job)) (ap (λ (x : Told). x.number) (sym is)) in
    sound_is w (not-false (sound_B w) (unrefused (end_refusals w job) passed).0)

-- refusals that stand one after another
refused_append : (rs qs : List Refusal) → refused rs ≡ false → refused qs ≡ false → refused (rs ++ qs) ≡ false
refused_append [] qs h e = e
refused_append (r ∷ rs) qs h e = go r.applies h (λ x. refused_append rs qs x e)
  where
    go : (b : Bool) → b || refused rs ≡ false → (refused rs ≡ false → refused (rs ++ qs) ≡ false) → b || refused (rs ++ qs) ≡ false
    go true x ih = x
    go false x ih = ih x

-- its first three refusals are those of an end, then 14 and 5, then the last
module _ (w : World) (job : ℕ) (p : Procedure) (a : Address) where
  abbrev following : Placed → List Refusal
  following x = refuse 14 (eqb x.number 14) ∷ refuse 5 (eqb x.number 5) ∷ keyed_refusals w job p x.key

  abbrev rest : List Refusal
  rest = following (address_call a)

  -- where the gate refuses
  pub decides_gate : (why : Reason) → told (Err why) ≡ decided (end_refusals w job) (done false (pos 0)) → eqb (told (Err why)).number 0 ≡ false → Decides w job p a (Err why)
  decides_gate why h n =
      (λ t. h ∙ gate_refuses (end_refusals w job) (done false (pos 0)) (decided rest t) refl (ap (λ (x : Told). eqb x.number 0) (sym h) ∙ n) ∙ sym (decided_append (end_refusals w job) rest t), n)

  -- where it does not
  module _ (gate : Done) (is : told (Ok gate) ≡ decided (end_refusals w job) (done false (pos 0))) where
    gate_passed : refused (end_refusals w job) ≡ false
    gate_passed = decided_done (end_refusals w job) (done false (pos 0)) (numbered w (committing job)) (ap (λ (x : Told). x.number) (sym is))

    after_gate : (x : Placed) → x ≡ address_call a → (t : Told) → decided (following x) t ≡ decided (operation_refusals w job p a) t
    after_gate x same t =
        ap (λ (y : Placed). decided (following y) t) same
        ∙ sym (decided_append (end_refusals w job) rest t ∙ decided_none (end_refusals w job) (decided rest t) gate_passed)

    pub decides_no_edition : placed (Err NoEdition) ≡ address_call a → Decides w job p a (Err reason.NoEdition)
    decides_no_edition h = (after_gate (placed (Err NoEdition)) h, refl)

    pub decides_no_key : placed (Err OutOfRange) ≡ address_call a → Decides w job p a (Err reason.OutOfRange)
    decides_no_key h = (after_gate (placed (Err OutOfRange)) h, refl)

    module _ (x : Keyed) (h : placed (Ok x) ≡ address_call a) where
      pub decides_refused : (why : Reason) → Judges w job p x.key (Err why) → Decides w job p a (Err why)
      decides_refused why j = (λ t. j.0 t ∙ after_gate (placed (Ok x)) h t, j.1)

      pub decides_performed : (spot : Spot) → Judges w job p x.key (Ok spot) → Decides w job p a (Ok (record { spot = spot; turns = x.turns }))
      decides_performed spot j = (
        refused_append (end_refusals w job) rest gate_passed (ap (λ (y : Placed). refused (following y)) (sym h) ∙ j.0),
        j.1 ∙ ap (λ (y : Placed). spot_of y.key (used_tiles w)) h,
        ap (λ (y : Placed). y.turns) h,
      )
