-- The numbers of a rectangle, each exactly
use Rattle.std.specs.Prelude.{Bool, ◌||◌, false, not, true, List, [], ◌++◌, ◌∷◌, ◌↔◌, ◌≢◌, ◌⊎◌, ◌≡◌, refl, ◌<◌, ◌^◌, ◌≤◌, ℕ, eqb, ltb, negsuc, pos, ℤ, length, ◌<ℤ◌}
use Rattle.std.proofs.Common.{inl, inr, ⊎_elim, ◌∙◌, ap, sym, arith, ltb→lt, lt→ltb, eq-eqb, eqb-true, le-ltb, lt-ltb, ltb-false, ltb-true}
use Rattle.std.proofs.Math.Option.{Option, none, some}
use Rattle.std.proofs.Math.Path.{subst}
use Rattle.std.specs.Int.Signed.{lt_z_yes}
use Rattle.std.proofs.lemmas.Bool.{not-false, not-true}
use Rattle.lists.specs.Lists.{All}
use Rattle.lists.specs.Truth.{never}
use Rattle.strict.specs.Book.{Book, held_by}
use Rattle.strict.specs.Commutativity.{Signature}
use Rattle.strict.specs.Operations.{begun}
use Rattle.strict.proofs.Theorems.{first_holder}
use Rattle.strict.specs.declared.Procedure.{Procedure}
use Rattle.strict.specs.declared.Rule.{Rule}
use Rattle.grid.proofs.Laws.Keys.{no_edition}
use Rattle.grid.specs.Limits.{north_edition, south_edition}
use Rattle.grid.specs.Tile.{is_edition}
use Rattle.service.specs.Admission.{is_open, open_marks}
use Rattle.service.specs.Calls.{end_refusals}
use Rattle.service.specs.Claims.{Serves}
use Rattle.service.proofs.Laws.Accepting.{serves_is}
use Rattle.service.proofs.Laws.Soundness.{sound_is}
use Rattle.service.proofs.Laws.Storing.{tabled_stands}
use Rattle.service.proofs.Laws.Telling.{Others, Passed, found_is, held_six, holder_told, told_exactly, told_whole}
use Rattle.service.specs.Limits.{last_job}
use Rattle.service.specs.Sound.{sound_B}
use Rattle.service.specs.Told.{Refusal, decided, refuse, refuse_held, told_held}
use Rattle.service.specs.World.{World, free_bytes, state}
use Rattle.service.specs.declared.Told.{Told}
use Rattle.rectangles.specs.Claims.{FirstHeld, Misshapen, Shaped, bytes_run_out, places_run_out, slots_run_out}
use Rattle.rectangles.proofs.Laws.Fitting.{first_none}
use Rattle.rectangles.proofs.Laws.Running.{bytes_run_out_lem, places_run_out_lem, slots_run_out_lem}
use Rattle.rectangles.proofs.Laws.Tiles.{all_apart}
use Rattle.rectangles.proofs.Laws.Whole.{rectangle_told}
use Rattle.rectangles.specs.Rectangles.{area, bottom_row, covered, few_bytes, few_places, few_slots, first_held, first_of, height, keys, list_refusals, listed, misnamed, misshapen, out_of_range, procedure_for, rectangle_call, room_refusals, span, top_row, width}
use Rattle.rectangles.specs.declared.Change.{Change}
use Rattle.rectangles.specs.declared.Rectangle.{Rectangle}

-- THE FIRST HELD TILE
pub none_held : (rule : Rule) (m : Book) (job : ℕ) (p : Procedure) (ks : List ℕ) → All (λ k. held_by rule m job p k ≡ none) ks → first_held rule m job p ks ≡ none
none_held rule m job p [] h = refl
none_held rule m job p (k ∷ ks) h = rw h.0 (none_held rule m job p ks h.1)

pub held_none : (rule : Rule) (m : Book) (job : ℕ) (p : Procedure) (ks : List ℕ) → first_held rule m job p ks ≡ none → All (λ k. held_by rule m job p k ≡ none) ks
held_none rule m job p [] e = tt
held_none rule m job p (k ∷ ks) e =
    let h = first_none (held_by rule m job p k) (first_held rule m job p ks) e in
    (h.0, held_none rule m job p ks h.1)

held_first : (rule : Rule) (m : Book) (job : ℕ) (p : Procedure) (ks : List ℕ) (i : Signature) → first_held rule m job p ks ≡ some i → FirstHeld rule m job p ks i
held_first rule m job p [] i e = absurd (let z : ◌≡◌ {A = ℕ} 0 1 = cc in omega arith)
held_first rule m job p (k ∷ ks) i e = go (held_by rule m job p k) refl e (held_first rule m job p ks i)
  where
    go : (o : Option Signature) → held_by rule m job p k ≡ o → first_of o (first_held rule m job p ks) ≡ some i
        → (first_held rule m job p ks ≡ some i → FirstHeld rule m job p ks i) → FirstHeld rule m job p (k ∷ ks) i
    go (some j) q e ih =
        record {
          earlier = [];
          tile = k;
          later = ks;
          placed_so = refl;
          none_earlier = tt;
          held_there = (first_holder rule (begun job p k m.tiles) m.table i).0 (q ∙ e);
        }
    go none q e ih =
        let f = ih e in
        record {
          earlier = k ∷ f.earlier;
          tile = f.tile;
          later = f.later;
          placed_so = ap {B = List ℕ} (λ l. k ∷ l) f.placed_so;
          none_earlier = (q, f.none_earlier);
          held_there = f.held_there;
        }

first_held_lem : (rule : Rule) (m : Book) (job : ℕ) (p : Procedure) (ks : List ℕ) (i : Signature) → FirstHeld rule m job p ks i → first_held rule m job p ks ≡ some i
first_held_lem rule m job p ks i f =
    ap (λ l. first_held rule m job p l) f.placed_so
    ∙ go f.earlier f.none_earlier ((first_holder rule (begun job p f.tile m.tiles) m.table i).1 f.held_there)
  where
    go : (xs : List ℕ) → All (λ k. held_by rule m job p k ≡ none) xs → held_by rule m job p f.tile ≡ some i
        → first_held rule m job p (xs ++ (f.tile ∷ f.later)) ≡ some i
    go [] h e = ap (λ o. first_of o (first_held rule m job p f.later)) e
    go (x ∷ xs) h e = rw h.0 (go xs h.1 e)

-- 13 IN WORDS
no_span : (a b : ℤ) → (span a b ≡ 0) ↔ (b <ℤ a)
no_span (pos a) (pos b) = (λ e. lt_z_yes (lt→ltb b a (omega arith)), λ h. let l = ltb→lt b a h.lt in omega arith)
no_span (pos a) (negsuc b) = (λ e. lt_z_yes tt, λ h. refl)
no_span (negsuc a) (pos b) = (λ e. absurd (omega arith), λ h. absurd h.lt)
no_span (negsuc a) (negsuc b) = (λ e. lt_z_yes (lt→ltb a b (omega arith)), λ h. let l = ltb→lt a b h.lt in omega arith)

or_iff : {A B : Type 0} (a b : Bool) → ((a ≡ true) ↔ A) → ((b ≡ true) ↔ B) → (a || b ≡ true) ↔ (A ⊎ B)
or_iff true b f g = (λ e. inl (f.0 refl), λ h. refl)
or_iff false b f g = (λ e. inr (g.0 e), λ h. ⊎_elim (λ x. never (sym (f.1 x))) g.1 h)

pub misshapen_is : (r : Rectangle) → (misshapen r ≡ true) ↔ Misshapen r
misshapen_is r =
    or_iff (eqb (width r) 0) _ (empty_is r.west r.east)
    (or_iff (eqb (height r) 0) _ (empty_is (top_row r) (bottom_row r))
    (or_iff (ltb (2 ^ r.zoom) (width r)) (ltb 256 (area r)) (ltb-true _ _, lt-ltb _ _) (ltb-true _ _, lt-ltb _ _)))
  where
    empty_is : (a b : ℤ) → (eqb (span a b) 0 ≡ true) ↔ (b <ℤ a)
    empty_is a b = (λ e. (no_span a b).0 (eqb-true _ _ e), λ h. eq-eqb _ _ ((no_span a b).1 h))

-- THE NUMBERS
-- refusals that do not apply are passed by
passed_by_lem : (xs ys : List Refusal) (t : Told) → Passed xs → (decided (xs ++ ys) t).number ≡ (decided ys t).number
passed_by_lem [] ys t h = refl
passed_by_lem (x ∷ xs) ys t h = rw h.0 (passed_by_lem xs ys t h.1)

-- which of three is the first
unfoldable RoomTold : Bool → Bool → Bool → ℕ → Type 0
RoomTold a b c n = ((n ≡ 7) ↔ (a ≡ true)) × ((n ≡ 8) ↔ ((a ≡ false) × (b ≡ true))) × ((n ≡ 9) ↔ ((a ≡ false) × (b ≡ false) × (c ≡ true)))

room_first : (r : Rectangle) (a b c : Bool) → RoomTold a b c (decided (room_refusals a b c) (covered r)).number
unfolding RoomTold
room_first r a b c =
    let seven = told_exactly 7 [] (refuse 7 a) (refuse 8 b ∷ refuse 9 c ∷ []) (covered r) tt refl (omega arith, (omega arith, tt)) (omega arith) in
    let eight = told_exactly 8 (refuse 7 a ∷ []) (refuse 8 b) (refuse 9 c ∷ []) (covered r) (omega arith, tt) refl (omega arith, tt) (omega arith) in
    let nine = told_exactly 9 (refuse 7 a ∷ refuse 8 b ∷ []) (refuse 9 c) [] (covered r) (omega arith, (omega arith, tt)) refl tt (omega arith) in (
      (λ e. (seven.0 e).1, λ e. seven.1 (tt, e)),
      (λ e. let x = eight.0 e in (x.0.0, x.1), λ x. eight.1 ((x.0, tt), x.1)),
      (λ e. let x = nine.0 e in (x.0.0, x.0.1.0, x.1), λ x. nine.1 ((x.0, (x.1, tt)), x.2)),
    )

module _ (w : World) (job sheet : ℕ) (change : Change) (r : Rectangle) where
  abbrev p : Procedure
  p = procedure_for change

  abbrev ks : List ℕ
  ks = keys (listed r)

  abbrev rule : Rule
  rule = w.session.rule

  abbrev told : Told
  told = (rectangle_call w job sheet change r).told

  -- 1, 2, 3; and then 14, 5 and 13
  abbrev three : List Refusal
  three = end_refusals w job

  abbrev four : List Refusal
  four = three ++ (refuse 14 (misnamed r) ∷ [])

  abbrev five : List Refusal
  five = four ++ (refuse 5 (out_of_range r) ∷ [])

  abbrev six : List Refusal
  six = five ++ (refuse 13 (misshapen r) ∷ [])

  serves_then : (xs : List Refusal) → Passed (three ++ xs) ↔ (Serves w job × Passed xs)
  serves_then xs = let v = serves_is w job in (
    λ h. (v.0 (h.0, (h.1.0, (h.1.1.0, tt))), h.1.1.1),
    λ c. let s = v.1 c.0 in (s.0, (s.1.0, (s.1.1.0, c.1))),
  )

  last_others : (n : ℕ) → 6 ≢ n → 7 ≢ n → 8 ≢ n → 9 ≢ n → Others n (list_refusals w job p ks)
  last_others n a b c d = ((λ e. a (sym (held_six (first_held rule (state w).book job p ks)) ∙ e)), (b, (c, (d, tt))))

  -- 1, 2 and 3
  pub told_first : ((told.number ≡ 1) ↔ (sound_B w ≡ false))
      × ((told.number ≡ 2) ↔ ((sound_B w ≡ true) × (last_job < job)))
      × ((told.number ≡ 3) ↔ ((sound_B w ≡ true) × (job ≤ last_job) × (is_open (state w) job ≡ false)))
  told_first =
      let a = refuse 1 (not (sound_B w)) in
      let b = refuse 2 (ltb last_job job) in
      let c = refuse 3 (not (is_open (state w) job)) in
      let later = refuse 14 (misnamed r) ∷ refuse 5 (out_of_range r) ∷ refuse 13 (misshapen r) ∷ list_refusals w job p ks in
      let one = told_exactly 1 [] a (b ∷ c ∷ later) (covered r) tt refl
      (omega arith, (omega arith, (omega arith, (omega arith, (omega arith, last_others 1 (omega arith) (omega arith) (omega arith) (omega arith)))))) (omega arith) in
      let two = told_exactly 2 (a ∷ []) b (c ∷ later) (covered r) (omega arith, tt) refl
      (omega arith, (omega arith, (omega arith, (omega arith, last_others 2 (omega arith) (omega arith) (omega arith) (omega arith))))) (omega arith) in
      let three = told_exactly 3 (a ∷ b ∷ []) c later (covered r) (omega arith, (omega arith, tt)) refl
      (omega arith, (omega arith, (omega arith, last_others 3 (omega arith) (omega arith) (omega arith) (omega arith)))) (omega arith) in
      let t = ap (λ (t : Told). t.number) (rectangle_told w job sheet change r) in (
        (λ e. not-true _ (one.0 (sym t ∙ e)).1, λ e. t ∙ one.1 (tt, ap not e)),
        (
          λ e. let x = two.0 (sym t ∙ e) in (not-false _ x.0.0, ltb-true last_job job x.1),
          λ x. t ∙ two.1 ((ap not x.0, tt), lt-ltb last_job job x.1),
        ),
        (
          λ e. let x = three.0 (sym t ∙ e) in (not-false _ x.0.0, ltb-false last_job job x.0.1.0, not-true _ x.1),
          λ x. t ∙ three.1 ((ap not x.0, (le-ltb last_job job x.1, tt)), ap not x.2),
        ),
      )

  pub told_fourteen : (told.number ≡ 14) ↔ (Serves w job × (r.edition ≢ south_edition) × (r.edition ≢ north_edition))
  told_fourteen =
      let x = told_exactly 14 three (refuse 14 (misnamed r)) (refuse 5 (out_of_range r) ∷ refuse 13 (misshapen r) ∷ list_refusals w job p ks) (covered r)
      (omega arith, (omega arith, (omega arith, tt))) refl (omega arith, (omega arith, last_others 14 (omega arith) (omega arith) (omega arith) (omega arith))) (omega arith) in
      let y = serves_then [] in
      let n = no_edition r.edition in
      let t = ap (λ (t : Told). t.number) (rectangle_told w job sheet change r) in (
        λ e. let c = x.0 (sym t ∙ e) in let m = n.0 (not-true _ c.1) in ((y.0 c.0).0, m.0, m.1),
        λ c. t ∙ x.1 (y.1 (c.0, tt), ap not (n.1 (c.1, c.2))),
      )

  pub told_five : (told.number ≡ 5) ↔ (Serves w job × (is_edition r.edition ≡ true) × (out_of_range r ≡ true))
  told_five =
      let x = told_exactly 5 four (refuse 5 (out_of_range r)) (refuse 13 (misshapen r) ∷ list_refusals w job p ks) (covered r)
      (omega arith, (omega arith, (omega arith, (omega arith, tt)))) refl (omega arith, last_others 5 (omega arith) (omega arith) (omega arith) (omega arith)) (omega arith) in
      let y = serves_then (refuse 14 (misnamed r) ∷ []) in
      let t = ap (λ (t : Told). t.number) (rectangle_told w job sheet change r) in (
        λ e. let c = x.0 (sym t ∙ e) in let z = y.0 c.0 in (z.0, not-false _ z.1.0, c.1),
        λ c. t ∙ x.1 (y.1 (c.0, (ap not c.1, tt)), c.2),
      )

  pub told_thirteen : (told.number ≡ 13) ↔ (Serves w job × (is_edition r.edition ≡ true) × (out_of_range r ≡ false) × Misshapen r)
  told_thirteen =
      let x = told_exactly 13 five (refuse 13 (misshapen r)) (list_refusals w job p ks) (covered r)
      (omega arith, (omega arith, (omega arith, (omega arith, (omega arith, tt))))) refl (last_others 13 (omega arith) (omega arith) (omega arith) (omega arith)) (omega arith) in
      let y = serves_then (refuse 14 (misnamed r) ∷ refuse 5 (out_of_range r) ∷ []) in
      let m = misshapen_is r in
      let t = ap (λ (t : Told). t.number) (rectangle_told w job sheet change r) in (
        λ e. let c = x.0 (sym t ∙ e) in let z = y.0 c.0 in (z.0, not-false _ z.1.0, z.1.1.0, m.0 c.1),
        λ c. t ∙ x.1 (y.1 (c.0, (ap not c.1, (c.2, tt))), m.1 c.3),
      )

  shaped_is : Passed six ↔ (Serves w job × Shaped r)
  shaped_is =
      let y = serves_then (refuse 14 (misnamed r) ∷ refuse 5 (out_of_range r) ∷ refuse 13 (misshapen r) ∷ []) in (
        λ e. let z = y.0 e in (z.0, record { of_edition = not-false _ z.1.0; in_range = z.1.1.0; well_formed = z.1.1.1.0 }),
        λ c. y.1 (c.0, (ap not c.1.of_edition, (c.1.in_range, (c.1.well_formed, tt)))),
      )

  pub told_six : (told.number ≡ 6) ↔ (Serves w job × Shaped r × (first_held rule (state w).book job p ks ≢ none))
  told_six =
      let o = first_held rule (state w).book job p ks in
      let x = told_exactly 6 six (refuse_held o) (room_refusals (few_places w job p ks) (few_slots w ks) (few_bytes w ks)) (covered r)
      (omega arith, (omega arith, (omega arith, (omega arith, (omega arith, (omega arith, tt)))))) (held_six o) (omega arith, (omega arith, (omega arith, tt))) (omega arith) in
      let t = ap (λ (t : Told). t.number) (rectangle_told w job sheet change r) in
      let f = found_is o in (
        λ e. let c = x.0 (sym t ∙ e) in let s = shaped_is.0 c.0 in (s.0, s.1, f.0 c.1),
        λ c. t ∙ x.1 (shaped_is.1 (c.0, c.1), f.1 c.2),
      )

  pub told_held_lem : (i : Signature) → (told ≡ told_held i) ↔ (Serves w job × Shaped r × FirstHeld rule (state w).book job p ks i)
  told_held_lem i =
      let m = (state w).book in
      let o = first_held rule m job p ks in
      let rest = room_refusals (few_places w job p ks) (few_slots w ks) (few_bytes w ks) in
      let x = told_exactly 6 six (refuse_held o) rest (covered r)
      (omega arith, (omega arith, (omega arith, (omega arith, (omega arith, (omega arith, tt)))))) (held_six o) (omega arith, (omega arith, (omega arith, tt))) (omega arith) in
      let t = rectangle_told w job sheet change r in (
        λ e. let c = x.0 (ap (λ (t : Told). t.number) (sym t ∙ e)) in
            let s = shaped_is.0 c.0 in
            (s.0, s.1, held_first rule m job p ks i (holder_told o i c.1 (sym (told_whole six (refuse_held o) rest (covered r) c.0 c.1) ∙ sym t ∙ e))),
        λ c. let e = first_held_lem rule m job p ks i c.2 in
            t ∙ told_whole six (refuse_held o) rest (covered r) (shaped_is.1 (c.0, c.1)) (ap (λ q. (refuse_held q).applies) e)
            ∙ ap (λ q. (refuse_held q).says) e,
      )

  -- where no tile of the list is held, 7, 8 and 9 are what is left
  module _ (ready : Serves w job) (shaped : Shaped r) (unheld : All (λ k. held_by rule (state w).book job p k ≡ none) ks) (full : length w.session.marks ≡ 64) where
    abbrev places : Bool
    places = places_run_out rule (length w.tiles) (state w).book job sheet p ks

    abbrev slots : Bool
    slots = slots_run_out (length w.operations) (state w).book job sheet p ks

    abbrev bytes : Bool
    bytes = bytes_run_out (free_bytes w) (open_marks w.session.marks) ks

    room_told : told.number ≡ (decided (room_refusals places slots bytes) (covered r)).number
    room_told =
        let m = (state w).book in
        let o = sound_is w ready.is_sound_there in
        let s = tabled_stands w full o.tables in
        let a = places_run_out_lem rule job sheet p (length w.tiles) ks m (all_apart r shaped) s.ascending s.room in
        let b = slots_run_out_lem rule job sheet p (length w.operations) ks m s.fits in
        let c = bytes_run_out_lem (free_bytes w) (open_marks w.session.marks) ks o.ends_fit in
        ap (λ (t : Told). t.number) (rectangle_told w job sheet change r)
        ∙ passed_by_lem six (list_refusals w job p ks) (covered r) (shaped_is.1 (ready, shaped))
        ∙ ap (λ q. (decided (refuse_held q ∷ room_refusals (few_places w job p ks) (few_slots w ks) (few_bytes w ks)) (covered r)).number) (none_held rule m job p ks unheld)
        ∙ sym (λ i. (decided (room_refusals (a i) (b i) (c i)) (covered r)).number)

    pub told_room : ((told.number ≡ 7) ↔ (places ≡ true))
        × ((told.number ≡ 8) ↔ ((places ≡ false) × (slots ≡ true)))
        × ((told.number ≡ 9) ↔ ((places ≡ false) × (slots ≡ false) × (bytes ≡ true)))
    unfolding RoomTold
    told_room = subst (RoomTold places slots bytes) (sym room_told) (room_first r places slots bytes)
