-- What a rectangle that is done keeps and writes
use Rattle.std.specs.Prelude.{true, List, [], ◌++◌, ◌∷◌, ◌≡◌, refl, ℕ, length}
use Rattle.std.proofs.Common.{append_assoc, append-nil, ◌∙◌, ap, sym}
use Rattle.grid.specs.declared.Address.{Address}
use Rattle.service.specs.Admission.{answer_to}
use Rattle.service.specs.Claims.{Keeps}
use Rattle.service.specs.History.{Call, call, event, operating}
use Rattle.service.specs.Journal.{encode, record_of}
use Rattle.service.proofs.Laws.Accepting.{carried_journal, left_carried, passed, passes}
use Rattle.service.proofs.Theorems.{accepted_keeps}
use Rattle.service.specs.World.{World, state, used_journal}
use Rattle.rectangles.specs.Claims.{AllDone, left_by, operations, records_of}
use Rattle.rectangles.specs.Rectangles.{procedure_for}
use Rattle.rectangles.specs.declared.Change.TheVariants.{Delete, Insert}
use Rattle.rectangles.specs.declared.Change.{Change}

keeps_on : {w v x : World} → Keeps w v → Keeps v x → Keeps w x
keeps_on h k =
    record {
      still_sound = k.still_sound;
      same_rule = k.same_rule ∙ h.same_rule;
      all_marks = k.all_marks;
      same_tiles = k.same_tiles ∙ h.same_tiles;
      same_operations = k.same_operations ∙ h.same_operations;
      same_journal = k.same_journal ∙ h.same_journal;
    }

pub all_keep : (w v : World) (cs : List Call) → Keeps w v → AllDone v cs → Keeps w (left_by v cs)
all_keep w v [] h d = h
all_keep w v (c ∷ cs) h d = all_keep w (call v c).after cs (keeps_on h (accepted_keeps v c h.all_marks d.0)) d.1

-- an insert and a delete answer ok
module _ (job sheet : ℕ) (change : Change) where
  answers_ok : (w : World) (a : Address) → answer_to (state w) (event (operating job sheet (procedure_for change) a)) ≡ true
  answers_ok w a = go change
    where
      go : (change : Change) → answer_to (state w) (event (operating job sheet (procedure_for change) a)) ≡ true
      go Insert = refl
      go Delete = refl

  pub all_write : (w : World) (xs : List Address) → length w.session.marks ≡ 64 → AllDone w (operations job sheet (procedure_for change) xs)
      → used_journal (left_by w (operations job sheet (procedure_for change) xs)) ≡ used_journal w ++ records_of job sheet (procedure_for change) xs
  all_write w [] full d = sym (append-nil (used_journal w))
  all_write w (a ∷ xs) full d =
      let c = operating job sheet (procedure_for change) a in
      let k = accepted_keeps w c full d.0 in
      let bytes = encode (record_of (event c) true) in
      let first : used_journal (call w c).after ≡ used_journal w ++ bytes =
      ap (λ v. used_journal v) (left_carried w c d.0)
      ∙ carried_journal w (event c) full (passes w c (passed w c d.0))
      ∙ ap (λ b. used_journal w ++ encode (record_of (event c) b)) (answers_ok w a) in
      all_write (call w c).after xs k.all_marks d.1
      ∙ ap (λ l. l ++ records_of job sheet (procedure_for change) xs) first
      ∙ append_assoc (used_journal w) bytes (records_of job sheet (procedure_for change) xs)
