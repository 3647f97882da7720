-- THEOREMS ON ANY BYTES: what is read there, and that what the calls write is read so
use Rattle.std.specs.Prelude.{List, ◌++◌, ◌∷◌, ◌↔◌, ◌≡◌, ◌+◌, ◌-◌, ◌<◌, ◌≤◌, ℕ, drop, length, take}
use Rattle.std.proofs.Common.{◌∙◌, ap, sym}
use Rattle.lists.specs.Lists.{All}
use Rattle.strict.specs.Histories.{Event}
use Rattle.strict.specs.declared.Rule.TheVariants.{Together}
use Rattle.service.specs.Admission.{State, answer_to}
use Rattle.service.specs.Claims.{Named}
use Rattle.service.specs.Extents.{record_size}
use Rattle.service.specs.Journal.{encode, record_of, rule_bytes}
use Rattle.service.specs.Limits.{short_size}
use Rattle.service.specs.declared.Read.TheVariants.{Cut, End, Ruled, Whole}
use Rattle.service.specs.declared.Record.{Record}
use Rattle.readback.specs.Claims.{Missing, Tells}
use Rattle.readback.proofs.Laws.Outcomes.{cut_just, end_just, tells_so}
use Rattle.readback.proofs.Laws.Reading.{read_whole}
use Rattle.readback.proofs.Laws.Whole.{bytes_encoded, in_front, read_rule}
use Rattle.readback.specs.Reading.{front, read_at, read_call}

-- the bytes of a whole record are the encoding of what was read, so that they can be read in no other way
pub whole_is_encoded : (journal : List ℕ) (at : ℕ) (r : Record) (next : ℕ) → All (λ b. b < 256) journal → read_at journal at ≡ Whole r next
    → take (next - at) (drop at journal) ≡ encode r
whole_is_encoded journal at r next bytes reads = bytes_encoded journal at r next bytes reads

-- and what a call would write is read as that
pub encoded_is_whole : (journal : List ℕ) (at : ℕ) (e : Event) (s : State) (rest : List ℕ) → Named e → drop at journal ≡ encode (record_of e (answer_to s e)) ++ rest
    → read_at journal at ≡ Whole (record_of e (answer_to s e)) (at + record_size e)
unfolding read_at
encoded_is_whole journal at e s rest named is = ap (front at) is ∙ read_whole at e s rest named

-- the end is behind the last byte, and a tail is cut just where its tag is known, the length bytes that are there are right, and bytes are missing
pub end_exact : (journal : List ℕ) (at : ℕ) → (read_at journal at ≡ End) ↔ (length journal ≤ at)
end_exact journal at = end_just journal at

pub cut_exact : (journal : List ℕ) (at : ℕ) → (read_at journal at ≡ Cut) ↔ Missing (drop at journal)
cut_exact journal at = cut_just journal at

-- the reader tells 10 and its offset of a malformed record, and 0 of all others
pub reader_tells : (journal : List ℕ) (at : ℕ) → Tells at (read_at journal at) (read_call journal at)
reader_tells journal at = tells_so at (read_at journal at)

-- a rule is read in front alone, as 5, 0, 1, 2
pub rule_in_front : (journal : List ℕ) (at next : ℕ) → read_at journal at ≡ Ruled next → (at ≡ 0) × (next ≡ short_size) × (take short_size journal ≡ rule_bytes Together)
unfolding read_at
rule_in_front journal at next e =
    let f = in_front at next (drop at journal) e in
    let whole : journal ≡ 5 ∷ 0 ∷ 1 ∷ 2 ∷ f.behind = ap (λ x. drop x journal) (sym f.first_place_lem) ∙ f.is_rule in
    (f.first_place_lem, f.next_place, ap (take short_size) whole)

-- and there it is read, whatever stands behind it
pub rule_is_read : (rest : List ℕ) → read_at (rule_bytes Together ++ rest) 0 ≡ Ruled short_size
unfolding read_at
rule_is_read rest = read_rule rest
