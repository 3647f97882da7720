-- UNIQUENESS: each promise leaves one reply, one session and one content of each table
use Rattle.std.specs.Prelude.{Result, Ok, Err, Bool, cond, false, true, List, [], ◌∷◌, ◌≡◌, refl, ◌*◌, ◌+◌, ℕ, eqb, drop, get_or}
use Rattle.std.proofs.Common.{◌∙◌, ap, sym}
use Rattle.lists.specs.Truth.{one_if}
use Rattle.strict.specs.Histories.{Event, abort, commit, open_job, operation}
use Rattle.strict.specs.declared.Procedure.TheVariants.{Del, Ins, Mem}
use Rattle.strict.specs.declared.Procedure.{Procedure}
use Rattle.strict.specs.declared.Rule.{Rule}
use Rattle.grid.proofs.Laws.Keys.{key_small}
use Rattle.grid.specs.declared.Address.{Address}
use Rattle.service.specs.Calls.{abort_call, commit_call, open_call, operation_call, start_call}
use Rattle.service.specs.Claims.{Named}
use Rattle.service.specs.Journal.{encode, number_of, record_of}
use Rattle.service.proofs.Laws.Writing.{key_back, sheet_back}
use Rattle.service.specs.Told.{told}
use Rattle.service.specs.World.{Reported, World, reported}
use Rattle.service.specs.declared.Operation.{Operation}
use Rattle.service.specs.declared.Outcome.{Outcome}
use Rattle.service.specs.declared.Record.TheVariants.{Abort, Commit, Open, Sheeted}
use Rattle.service.specs.declared.Record.{Record}
use Rattle.service.specs.declared.Done.{Done}
use Rattle.service.specs.declared.Reason.TheVariants.{AlreadyOpen, Held, Misshapen, NoEdition, NoJournalRoom, NoOperationRoom, NoSuchJob, NoTileRoom, NotOpen, NotSound, OutOfRange}
use Rattle.service.specs.declared.Reason.{Reason}
use Rattle.service.specs.declared.Told.{Told}

-- the reply that is told so
abbrev reply_of : Told → Result Done Reason
reply_of t =
    get_or (Ok (record { answer = eqb t.answer 1; turns = t.turns; last = t.last }) ∷ Err NotSound ∷ Err NoSuchJob ∷ Err NotOpen ∷ Err AlreadyOpen ∷ Err OutOfRange ∷ Err (Held t.holder t.sheet) ∷ Err NoTileRoom ∷ Err NoOperationRoom ∷ Err NoJournalRoom ∷ []) t.number (Err (cond (eqb t.number 13) Misshapen NoEdition))

answer_back : (b : Bool) → eqb (one_if b) 1 ≡ b
answer_back true = refl
answer_back false = refl

reply_back : (r : Result Done Reason) → reply_of (told r) ≡ r
reply_back (Ok d) = ap (λ b. Ok (record { answer = b; turns = d.turns; last = d.last })) (answer_back d.answer)
reply_back (Err NotSound) = refl
reply_back (Err NoSuchJob) = refl
reply_back (Err NotOpen) = refl
reply_back (Err AlreadyOpen) = refl
reply_back (Err OutOfRange) = refl
reply_back (Err (Held job sheet)) = refl
reply_back (Err NoTileRoom) = refl
reply_back (Err NoOperationRoom) = refl
reply_back (Err NoJournalRoom) = refl
reply_back (Err Misshapen) = refl
reply_back (Err NoEdition) = refl

pub told_once : (r s : Result Done Reason) → told r ≡ told s → r ≡ s
told_once r s e = sym (reply_back r) ∙ ap reply_of e ∙ reply_back s

-- two outcomes, with the tables as they were left, are the same
pub record Same (r r' : Outcome) (t t' o o' j j' : List ℕ) : Type 0 where
  pub reply : r.reply ≡ r'.reply
  pub session : r.session ≡ r'.session
  pub tiles : t ≡ t'
  pub operations : o ≡ o'
  pub journal : j ≡ j'

-- a promise that what is reported is e
abbrev pub Once : Reported → Type 0
Once e = (r r' : Outcome) (t t' o o' j j' : List ℕ) → reported r t o j ≡ e → reported r' t' o' j' ≡ e → Same r r' t t' o o' j j'

pub reported_once : (e : Reported) → Once e
reported_once e r r' t t' o o' j j' p q =
    let z = p ∙ sym q in
    record {
      reply = told_once _ _ (ap (λ (x : Reported). x.told) z);
      session = ap (λ (x : Reported). x.after.session) z;
      tiles = ap (λ (x : Reported). x.after.tiles) z;
      operations = ap (λ (x : Reported). x.after.operations) z;
      journal = ap (λ (x : Reported). x.after.journal) z;
    }

pub start_once : (r : Rule) (tiles : List ℕ) (count : ℕ) (operations journal : List ℕ) → Once (start_call r tiles count operations journal)
start_once r tiles count operations journal = reported_once (start_call r tiles count operations journal)

pub open_once : (w : World) (job : ℕ) → Once (open_call w job)
open_once w job = reported_once (open_call w job)

pub operation_once : (w : World) (job sheet : ℕ) (p : Procedure) (a : Address) → Once (operation_call w job sheet p a)
operation_once w job sheet p a = reported_once (operation_call w job sheet p a)

pub commit_once : (w : World) (job : ℕ) → Once (commit_call w job)
commit_once w job = reported_once (commit_call w job)

pub abort_once : (w : World) (job : ℕ) → Once (abort_call w job)
abort_once w job = reported_once (abort_call w job)

-- what a call writes: the record that its bytes say, highest byte first
abbrev record_from : List ℕ → Record
record_from bs =
    let job : ℕ = get_or bs 3 0 in
    let said : Operation = record { job = job; procedure = cond (eqb (get_or bs 4 0) 1) Ins (cond (eqb (get_or bs 4 0) 2) Del Mem); answer = eqb (get_or bs 5 0) 1; key = number_of (drop 6 bs) } in
    cond (eqb (get_or bs 0 0) 1) (Open job) (cond (eqb (get_or bs 0 0) 3) (Commit job) (cond (eqb (get_or bs 0 0) 4) (Abort job) (Sheeted said (get_or bs 10 0 * 256 + get_or bs 11 0))))

record_back : (e : Event) (a : Bool) → Named e → record_from (encode (record_of e a)) ≡ record_of e a
unfolding encode
record_back (open_job job) a n = refl
record_back (operation job sheet Ins k) true n = rw (key_back k (key_small k n.1), sheet_back sheet)
record_back (operation job sheet Ins k) false n = rw (key_back k (key_small k n.1), sheet_back sheet)
record_back (operation job sheet Del k) true n = rw (key_back k (key_small k n.1), sheet_back sheet)
record_back (operation job sheet Del k) false n = rw (key_back k (key_small k n.1), sheet_back sheet)
record_back (operation job sheet Mem k) true n = rw (key_back k (key_small k n.1), sheet_back sheet)
record_back (operation job sheet Mem k) false n = rw (key_back k (key_small k n.1), sheet_back sheet)
record_back (commit job) a n = refl
record_back (abort job) a n = refl

pub record_once : (e f : Event) (a b : Bool) → Named e → Named f → encode (record_of e a) ≡ encode (record_of f b) → record_of e a ≡ record_of f b
record_once e f a b m n is = sym (record_back e a m) ∙ ap record_from is ∙ record_back f b n
