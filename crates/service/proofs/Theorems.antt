-- THEOREMS ON EVERY WORLD. Each speaks of the definitions that the calls promise to keep, and so of the calls
use Rattle.std.specs.Prelude.{Bool, false, true, List, ◌++◌, ◌∷◌, map, ◌↔◌, ◌≢◌, ◌⊎◌, ◌≡◌, refl, ◌+◌, ◌<◌, ◌≤◌, ℕ, eqb, ltb, drop, length}
use Rattle.std.proofs.Math.Bool.{cond}
use Rattle.std.proofs.Math.Option.{none, some}
use Rattle.std.proofs.Common.{◌∙◌, subst, sym, arith}
use Rattle.std.proofs.Math.Path.{ap}
use Rattle.std.proofs.Math.Seq.{length-sets}
use Rattle.std.proofs.lemmas.List.Edits.{sets-eq}
use borrow.Author.Tests.{eq-eqb, eqb-false, eqb-true, le-ltb, lt-ltb, ltb-false, ltb-true, ne_eqb, not-true}
use Rattle.lists.specs.Lists.{All}
use Rattle.lists.specs.Truth.{both, one_if}
use Rattle.strict.specs.Commutativity.{FirstHolder, Signature}
use Rattle.strict.specs.Operations.{answer, begun}
use Rattle.strict.specs.Tiles.{member}
use Rattle.strict.specs.declared.Procedure.{Procedure}
use Rattle.strict.specs.declared.Rule.TheVariants.{Together}
use Rattle.strict.specs.declared.Rule.{Rule}
use Rattle.grid.proofs.Addresses.{address_given}
use Rattle.grid.specs.Limits.{north_edition, south_edition}
use Rattle.grid.specs.Tile.{Placed, is_edition, key_of}
use Rattle.grid.specs.declared.Address.{Address}
use Rattle.service.specs.Admission.{answer_to, is_open}
use Rattle.service.specs.Calls.{abort_call, carried, commit_call, concluded, empty_session, open_call, operation_call, ruled_world, start_call, start_world}
use Rattle.service.specs.Claims.{ChangedByOther, Keeps, NoRoomByJob, OfEdition, Placeless, Serves, WantsOpen, holder_in, open_bytes, operation_bytes, refusing}
use Rattle.service.specs.Entry.{op_in}
use Rattle.service.specs.Extents.{record_size}
use Rattle.service.specs.History.{Call, call, event, job_of, operating, refusals_of, turns_by}
use Rattle.service.specs.Journal.{encode, record_of, rule_bytes}
use Rattle.service.proofs.Laws.Accepting.{after_stands, carried_bytes, carried_places, carried_slots, carried_sound, first_told, left_carried, lowest_told, none_told, passed, passes, told_done, told_listed}
use Rattle.service.proofs.Laws.Deciding.{accepted_told, held_by_other, held_names, room_by_job, told_eight, told_nine, told_seven}
use Rattle.service.proofs.Laws.Ordering.{open_told, told_five, told_four, told_fourteen, told_one, told_three, told_two}
use Rattle.service.proofs.Laws.Performing.{start_is, start_told}
use Rattle.service.proofs.Laws.Soundness.{is_sound, sound_is}
use Rattle.service.proofs.Laws.Starting.{start_numbers, told_of_start}
use Rattle.service.proofs.Laws.Storing.{open_small}
use Rattle.service.proofs.Laws.Wording.{settled_worded, worded_settled}
use Rattle.service.specs.Limits.{job_count, last_job}
use Rattle.service.specs.Sound.{AllSettled, Sound, Worded, sound_B}
use Rattle.service.specs.Told.{Refusal, bare, done, refused, told_held}
use Rattle.service.specs.World.{Reported, World, free_bytes, state, used_journal, used_operations, used_tiles, world}
use Rattle.service.specs.declared.Told.{Told}

-- 1. ONE NUMBER FROM THE LIST, AND A REFUSAL CHANGES NOTHING
pub refusal_changes_nothing : (w : World) (c : Call) → (call w c).told.number ≢ 0 → ((call w c).after ≡ w) × (member (call w c).told.number (refusing c) ≡ true)
unfolding concluded
refusal_changes_nothing w c n = (ap (λ b. cond b (carried w (event c)) w) (ne_eqb (call w c).told.number 0 n), told_listed w c n)

-- the first refusal of the list that applies is told
pub first_given : (w : World) (c : Call) (xs : List Refusal) (r : Refusal) (ys : List Refusal) → refusals_of w c ≡ xs ++ (r ∷ ys)
    → All (λ x. x.applies ≡ false) xs → r.applies ≡ true → (call w c).told ≡ r.says
first_given w c xs r ys e h a = first_told w c xs r ys e h a

-- which is the lowest number that applies, where 14, that is judged before 5, does not
pub lowest_given : (w : World) (c : Call) → OfEdition c
    → All (λ r. r.applies ≡ true → (0 < (call w c).told.number) × ((call w c).told.number ≤ r.says.number)) (refusals_of w c)
lowest_given w c h = lowest_told w c h

-- and 0 where none applies
pub none_given : (w : World) (c : Call) → refused (refusals_of w c) ≡ false → (call w c).told ≡ done (answer_to (state w) (event c)) (turns_by c)
none_given w c e = none_told w c e

-- the order in which they are judged: 1 first, then 2, then 3 (of an open 4), then 14, then 5
pub one_exact : (w : World) (c : Call) → ((call w c).told.number ≡ 1) ↔ (sound_B w ≡ false)
one_exact w c = told_one w c

pub two_exact : (w : World) (c : Call) → ((call w c).told.number ≡ 2) ↔ ((sound_B w ≡ true) × (last_job < job_of c))
two_exact w c = told_two w c

pub three_exact : (w : World) (c : Call) → WantsOpen c
    → ((call w c).told.number ≡ 3) ↔ ((sound_B w ≡ true) × (job_of c ≤ last_job) × (is_open (state w) (job_of c) ≡ false))
three_exact w c h = told_three w c h

pub four_exact : (w : World) (job : ℕ) → ((open_call w job).told.number ≡ 4) ↔ ((sound_B w ≡ true) × (job ≤ last_job) × (is_open (state w) job ≡ true))
four_exact w job = told_four w job

pub fourteen_exact : (w : World) (job sheet : ℕ) (p : Procedure) (a : Address)
    → ((operation_call w job sheet p a).told.number ≡ 14) ↔ (Serves w job × (a.edition ≢ south_edition) × (a.edition ≢ north_edition))
fourteen_exact w job sheet p a = told_fourteen w job sheet p a

pub five_exact : (w : World) (job sheet : ℕ) (p : Procedure) (a : Address)
    → ((operation_call w job sheet p a).told.number ≡ 5) ↔ (Serves w job × (is_edition a.edition ≡ true) × (key_of a ≡ none))
five_exact w job sheet p a = told_five w job sheet p a

-- an open whose job is not open is done or refused by 9, by the bytes that it asks for
pub open_exact : (w : World) (job : ℕ) →
    let n = (open_call w job).told.number in
    let asked = (sound_B w ≡ true) × (job ≤ last_job) × (is_open (state w) job ≡ false) in
    ((n ≡ 0) ↔ (asked × (open_bytes w ≤ free_bytes w))) × ((n ≡ 9) ↔ (asked × (free_bytes w < open_bytes w)))
open_exact w job = open_told w job

-- an operation of an open job, on an address with the key k: then 6, and then 7, 8 and 9
module _ (w : World) (job sheet : ℕ) (p : Procedure) (a : Address) (k : ℕ) (v : Serves w job) (has_key_lem : key_of a ≡ some k) where
  -- held is given just where an entry holds it by the session's rule, and names the job of the first and its sheet
  pub held_names_first : (holder : Signature) → ((operation_call w job sheet p a).told ≡ told_held holder)
      ↔ FirstHolder w.session.rule (begun job p k (used_tiles w)) (map op_in (used_operations w)) holder
  held_names_first holder = held_names w job sheet p a k v has_key_lem holder

  -- 7 just where no entry holds it, it needs a tile place, and all are taken
  pub seven_exact : ((operation_call w job sheet p a).told.number ≡ 7) ↔ ((holder_in w job p k ≡ none) × Placeless w job p k)
  seven_exact = told_seven w job sheet p a k v has_key_lem

  -- 8 just where then all entries' places are used
  pub eight_exact : ((operation_call w job sheet p a).told.number ≡ 8)
      ↔ ((holder_in w job p k ≡ none) × (Placeless w job p k → ⊥) × (w.session.operations ≡ length w.operations))
  eight_exact = told_eight w job sheet p a k v has_key_lem

  -- 9 just where then too few bytes are free
  pub nine_exact : ((operation_call w job sheet p a).told.number ≡ 9)
      ↔ ((holder_in w job p k ≡ none) × (Placeless w job p k → ⊥) × (w.session.operations < length w.operations) × (free_bytes w < operation_bytes w))
  nine_exact = told_nine w job sheet p a k v has_key_lem

  -- and 0 just where none of these is so
  pub accepted_given : ((operation_call w job sheet p a).told.number ≡ 0)
      ↔ ((holder_in w job p k ≡ none) × (Placeless w job p k → ⊥) × (w.session.operations < length w.operations) × (operation_bytes w ≤ free_bytes w))
  accepted_given = accepted_told w job sheet p a k v has_key_lem

  -- which answers as the report says: ins and del ok, and mem where the tile is there
  pub answer_exact : (operation_call w job sheet p a).told.number ≡ 0 → (operation_call w job sheet p a).told.answer ≡ one_if (answer p (member k (used_tiles w)))
  answer_exact ok =
      ap (λ (t : Told). t.answer) (told_done w (operating job sheet p a) ok)
      ∙ ap (λ (x : Placed). one_if (answer p (member x.key (used_tiles w)))) (address_given a k has_key_lem)

  -- where a job fails as one, 6 is given just where an unfinished entry of another job changed that tile
  pub held_own : w.session.rule ≡ Together → ((operation_call w job sheet p a).told.number ≡ 6) ↔ ChangedByOther job k (used_operations w)
  held_own rule = held_by_other w job sheet p a k v has_key_lem rule

  -- and 7 just where it is an ins of an absent tile that is not counted, and the tiles with those that are counted take all places
  pub room_own : w.session.rule ≡ Together → ((operation_call w job sheet p a).told.number ≡ 7) ↔ NoRoomByJob w job p k
  room_own rule = room_by_job w job sheet p a k v has_key_lem rule

-- a start is refused by 1, and then by 9 where the journal has no room for its rule; that gives the empty session, by the first rule, and touches nothing
module _ (r : Rule) (tiles : List ℕ) (count : ℕ) (operations journal : List ℕ) where
  pub start_one_exact : ((start_call r tiles count operations journal).told.number ≡ 1) ↔ (sound_B (start_world r tiles count operations journal) ≡ false)
  unfolding start_call
  start_one_exact = (told_of_start (sound_B (start_world r tiles count operations journal)) (ltb (length journal) (length (rule_bytes r)))).0

  pub start_nine_exact : ((start_call r tiles count operations journal).told.number ≡ 9)
      ↔ ((sound_B (start_world r tiles count operations journal) ≡ true) × (length journal < length (rule_bytes r)))
  unfolding start_call
  start_nine_exact =
      let nine = (told_of_start (sound_B (start_world r tiles count operations journal)) (ltb (length journal) (length (rule_bytes r)))).1 in
      (λ e. let x = nine.0 e in (x.0, ltb-true _ _ x.1), λ x. nine.1 (x.0, lt-ltb _ _ x.1))

  pub start_refused : (start_call r tiles count operations journal).told.number ≢ 0
      → (((start_call r tiles count operations journal).told ≡ bare 1) ⊎ ((start_call r tiles count operations journal).told ≡ bare 9))
      × ((start_call r tiles count operations journal).after ≡ world empty_session tiles operations journal)
  unfolding start_call
  start_refused n = (
    start_numbers (sound_B (start_world r tiles count operations journal)) (ltb (length journal) (length (rule_bytes r))) n,
    ap (λ b. cond b (ruled_world r tiles count operations journal) (world empty_session tiles operations journal)) (ne_eqb (start_call r tiles count operations journal).told.number 0 n),
  )

  -- one that is done leaves the session of the rule, and writes the bytes of its rule in front and no byte elsewhere
  pub start_writes : (start_call r tiles count operations journal).told.number ≡ 0
      → ((start_call r tiles count operations journal).after ≡ ruled_world r tiles count operations journal)
      × ((start_call r tiles count operations journal).after.journal ≡ rule_bytes r ++ drop (length (rule_bytes r)) journal)
  start_writes n =
      let o = both _ _ (sym (start_told r tiles count operations journal) ∙ eq-eqb _ 0 n) in
      let l = ltb-false (length journal) (length (rule_bytes r)) (not-true _ o.1) in
      let is : (start_call r tiles count operations journal).after ≡ ruled_world r tiles count operations journal =
      ap (λ (x : Reported). x.after) (start_is r tiles count operations journal o.0 l) in
      let z : 0 + length (rule_bytes r) ≡ length (rule_bytes r) = omega arith in
      (is, ap (λ (v : World). v.journal) is ∙ sets-eq (rule_bytes r) journal 0 (omega arith) ∙ ap (λ n. rule_bytes r ++ drop n journal) z)

-- the test of soundness says what its sentences say
pub sound_exact : (w : World) → (sound_B w ≡ true) ↔ Sound w
sound_exact w = (sound_is w, is_sound w)

-- and, where a job fails as one, those of the request
pub settled_exact : (t es : List ℕ) → AllSettled Together t es ↔ Worded t es
settled_exact t es = (settled_worded t es, worded_settled t es)

-- 2. ON EVERY SOUND WORLD, HOWEVER IT CAME ABOUT
-- an accepted call leaves a sound world (the world was sound, or it would be refused by 1)
pub accepted_keeps : (w : World) (c : Call) → length w.session.marks ≡ job_count → (call w c).told.number ≡ 0 → Keeps w (call w c).after
accepted_keeps w c full ok =
    let e = event c in
    let p = passes w c (passed w c ok) in
    subst (Keeps w) (sym (left_carried w c ok))
    (record {
      still_sound = is_sound (carried w e) (carried_sound w e full p);
      same_rule = refl;
      all_marks = (after_stands w e full p).all_jobs;
      same_tiles = carried_places w e full p;
      same_operations = carried_slots w e full p;
      same_journal = length-sets w.journal w.session.journal (encode (record_of e (answer_to (state w) e)));
    })

-- and so does every call, accepted or refused
pub call_keeps : (w : World) (c : Call) → length w.session.marks ≡ job_count → sound_B w ≡ true → Keeps w (call w c).after
call_keeps w c full sound = go (eqb (call w c).told.number 0) refl
  where
    go : (b : Bool) → eqb (call w c).told.number 0 ≡ b → Keeps w (call w c).after
    go true e = accepted_keeps w c full (eqb-true (call w c).told.number 0 e)
    go false e =
        subst (Keeps w) (sym (refusal_changes_nothing w c (eqb-false (call w c).told.number 0 e)).0)
        (record { still_sound = sound; same_rule = refl; all_marks = full; same_tiles = refl; same_operations = refl; same_journal = refl })

-- an accepted call writes its record after the used journal bytes, and no byte elsewhere
pub accepted_writes : (w : World) (c : Call) → length w.session.marks ≡ job_count → (call w c).told.number ≡ 0
    → (call w c).after.journal
    ≡ used_journal w ++ encode (record_of (event c) (answer_to (state w) (event c))) ++ drop (w.session.journal + record_size (event c)) w.journal
accepted_writes w c full ok = ap (λ (v : World). v.journal) (left_carried w c ok) ∙ carried_bytes w (event c) full (passes w c (passed w c ok))

-- an open job can commit, and can abort
pub ends_accepted : (w : World) (job : ℕ) → length w.session.marks ≡ job_count → sound_B w ≡ true → is_open (state w) job ≡ true
    → ((commit_call w job).told ≡ bare 0) × ((abort_call w job).told ≡ bare 0)
unfolding concluded
ends_accepted w job full sound job_is_open =
    let l = open_small w.session.marks job job_is_open in
    let j = le-ltb last_job job (omega arith) in
    (rw (sound, j, job_is_open), rw (sound, j, job_is_open))
