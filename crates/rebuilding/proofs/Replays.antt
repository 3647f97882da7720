-- WHAT ANY JOURNAL IS REPLAYED TO, whoever wrote it, in whichever form its records are
use Rattle.std.specs.Prelude.{Bool, false, true, List, [], ◌++◌, ◌↔◌, ◌≢◌, ◌⊎◌, ◌≡◌, refl, ◌+◌, ◌<◌, ◌≤◌, ℕ, drop, length, take}
use Rattle.std.proofs.Common.{◌∙◌, ap}
use Rattle.strict.specs.Operations.{answer}
use Rattle.strict.specs.declared.Procedure.{Procedure}
use Rattle.strict.specs.declared.Rule.TheVariants.{Alone}
use Rattle.strict.specs.declared.Rule.{Rule}
use Rattle.grid.specs.Tile.{is_key}
use Rattle.service.specs.Admission.{State, open_marks}
use Rattle.service.specs.Calls.{start_call, start_world}
use Rattle.service.specs.Journal.{encode, rule_bytes}
use Rattle.service.proofs.Laws.Performing.{start_is}
use Rattle.service.specs.Limits.{last_job, most_bytes, most_operations, older_size}
use Rattle.service.specs.Sound.{sound_B}
use Rattle.service.specs.Told.{bare}
use Rattle.service.specs.World.{Reported}
use Rattle.service.specs.declared.Operation.{Operation}
use Rattle.service.specs.declared.Read.TheVariants.{Whole}
use Rattle.service.specs.declared.Record.TheVariants.{Performed, Sheeted}
use Rattle.service.specs.declared.Record.{Record}
use Rattle.readback.proofs.Laws.Reading.{read_older}
use Rattle.readback.specs.Reading.{front, read_at}
use Rattle.rebuilding.specs.Claims.{Because, Halts, Leaves}
use Rattle.rebuilding.proofs.Laws.Halting.{number_of_replay, refused_is, refused_just, starts_left, tells_stop}
use Rattle.rebuilding.proofs.Laws.Leaving.{replay_left}
use Rattle.rebuilding.proofs.Laws.Ruling.{runs_by}
use Rattle.rebuilding.proofs.Laws.Stopping.{stopped_because, stops_there}
use Rattle.rebuilding.specs.Replay.{Halt, Rebuilt, replay_call, rule_in, stopped, turn}

-- the numbers are 0, 1, 10, 11 and 12
pub replay_numbers : (journal tiles : List ℕ) (count : ℕ) (operations : List ℕ) →
    let n = (replay_call journal tiles count operations).number in
    (n ≡ 1) ⊎ Halts n
replay_numbers journal tiles count operations = number_of_replay journal tiles count operations

-- 1 is given just where a start by the first rule, with no journal, would be refused or the journal is too long, and changes nothing
pub replay_refused : (journal tiles : List ℕ) (count : ℕ) (operations : List ℕ) → (replay_call journal tiles count operations).number ≡ 1
    → replay_call journal tiles count operations ≡ record { number = 1; offset = 0; undone = 0; count = count; tiles = tiles; operations = operations }
replay_refused journal tiles count operations n = refused_is journal tiles count operations n

pub replay_refused_exact : (journal tiles : List ℕ) (count : ℕ) (operations : List ℕ)
    → ((replay_call journal tiles count operations).number ≡ 1) ↔ ((sound_B (start_world Alone tiles count operations []) ≡ false) ⊎ (most_bytes < length journal))
replay_refused_exact journal tiles count operations = refused_just journal tiles count operations

-- else it tells the number, the offset and the open jobs of where it stopped
pub replay_tells : (journal tiles : List ℕ) (count : ℕ) (operations : List ℕ) →
    let r = replay_call journal tiles count operations in
    let h = stopped journal tiles count operations in
    r.number ≢ 1 → (r.number ≡ h.number) × (r.offset ≡ h.offset) × (r.undone ≡ open_marks h.reached.marks)
replay_tells journal tiles count operations n =
    let is = tells_stop journal tiles count operations n in
    (ap (λ (r : Rebuilt). r.number) is, ap (λ (r : Rebuilt). r.offset) is, ap (λ (r : Rebuilt). r.undone) is)

-- it runs by the rule that the journal begins with, and by the first where it begins with none
pub replay_runs_by : (journal tiles : List ℕ) (count : ℕ) (operations : List ℕ) → (stopped journal tiles count operations).reached.rule ≡ rule_in (read_at journal 0)
replay_runs_by journal tiles count operations = runs_by journal tiles count operations

-- it stops at the end or a cut tail with 0, at a malformed record with 10, at one that is refused with 11, and else at an answer that differs with 12
pub stops_because : (journal tiles : List ℕ) (count : ℕ) (operations : List ℕ) →
    let h = stopped journal tiles count operations in
    Because (length tiles) (length operations) h.reached (read_at journal h.offset) h.number
stops_because journal tiles count operations = stopped_because journal tiles count operations

-- and leaves what the journal cut at its offset leaves
pub stops_as_cut : (journal tiles : List ℕ) (count : ℕ) (operations : List ℕ) →
    let r = replay_call journal tiles count operations in
    r.number ≢ 1
    → replay_call (take r.offset journal) tiles count operations
    ≡ record { number = 0; offset = r.offset; undone = r.undone; count = r.count; tiles = r.tiles; operations = r.operations }
stops_as_cut journal tiles count operations n = stops_there journal tiles count operations n

-- however it stops, and by either rule: what is left is what the records up to its offset committed, run alone and in order, with the answers recorded
pub replay_leaves : (journal tiles : List ℕ) (count : ℕ) (operations : List ℕ) →
    let r = replay_call journal tiles count operations in
    r.number ≢ 1 → (rs : List Record) × Leaves journal (take count tiles) (length tiles) (length operations) r rs
replay_leaves journal tiles count operations begun = replay_left journal tiles count operations begun

-- what it leaves, a start by either rule takes
pub replay_starts : (rule : Rule) (journal tiles : List ℕ) (count : ℕ) (operations operations' journal' : List ℕ) →
    let r = replay_call journal tiles count operations in
    r.number ≢ 1 → 1 ≤ length operations' → length operations' ≤ most_operations → length journal' ≤ most_bytes → length (rule_bytes rule) ≤ length journal'
    → (start_call rule r.tiles r.count operations' journal').told ≡ bare 0
replay_starts rule journal tiles count operations operations' journal' n a b c d =
    let r = replay_call journal tiles count operations in
    ap (λ (x : Reported). x.told) (start_is rule r.tiles r.count operations' journal' (starts_left journal tiles count operations rule operations' journal' n a b c) d)

-- a record of before sheets is read, and is taken just as one with sheet 0
pub old_records_taken : (journal : List ℕ) (at job : ℕ) (p : Procedure) (found : Bool) (k : ℕ) (rest : List ℕ) → job ≤ last_job → is_key k ≡ true →
    let o : Operation = record { job = job; procedure = p; answer = answer p found; key = k } in
    drop at journal ≡ encode (Performed o) ++ rest
    → (read_at journal at ≡ Whole (Performed o) (at + older_size))
    × ((places slots : ℕ) (s : State) (next : ℕ) (onward : ℕ → State → Halt) → turn places slots at s (Whole (Performed o) next) onward ≡ turn places slots at s (Whole (Sheeted o 0) next) onward)
unfolding read_at
old_records_taken journal at job p found k rest small valid is = (ap (front at) is ∙ read_older at job p found k rest small valid, λ places slots s next onward. refl)
