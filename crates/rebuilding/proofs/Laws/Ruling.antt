-- A replay runs by the rule that its journal begins with
use Rattle.std.specs.Prelude.{Bool, cond, List, [], ◌∷◌, ◌≡◌, eqb, drop, length}
use Rattle.std.specs.Bool.{beq}
use Rattle.std.proofs.Math.Bool.{false, true}
use Rattle.std.proofs.Common.{◌∙◌, arith}
use Rattle.std.proofs.Math.Path.{refl}
use Prim.Native.Nat.{◌≤◌, suc, zero, ℕ}
use Rattle.strict.specs.declared.Rule.TheVariants.{Alone}
use Rattle.service.specs.Admission.{State, answer_to, perform, refusals}
use Rattle.service.specs.Calls.{empty_session, ruled_world, start_call}
use Rattle.service.specs.Told.{refused}
use Rattle.service.specs.World.{state, world}
use Rattle.service.specs.declared.Read.TheVariants.{Cut, End, Malformed, Ruled, Whole}
use Rattle.service.specs.declared.Read.{Read}
use Rattle.service.specs.declared.Record.{Record}
use Rattle.readback.proofs.Laws.Whole.{in_front}
use Rattle.readback.specs.Reading.{read_at}
use Rattle.rebuilding.proofs.Laws.Stopping.{fits}
use Rattle.rebuilding.specs.Replay.{answer_of, event_of, halt, rule_in, ruled, stopped, taking, turn}

-- a record is read past the first place, and a rule at it
pub past_whole : (j : List ℕ) (at : ℕ) (r : Record) (next : ℕ) → read_at j at ≡ Whole r next → 1 ≤ next
unfolding read_at
past_whole j at r next e = let f = (fits at (drop at j) r next e).further in omega arith

pub rule_place : (j : List ℕ) (at next : ℕ) → read_at j at ≡ Ruled next → (at ≡ 0) × (next ≡ 4)
unfolding read_at
rule_place j at next e = let f = in_front at next (drop at j) e in (f.first_place_lem, f.next_place)

no_rule : (j : List ℕ) → length j ≤ 0 → Alone ≡ rule_in (read_at j 0)
unfolding read_at
no_rule [] l = refl
no_rule (x ∷ xs) l = absurd (omega arith)

module _ (places slots : ℕ) (j : List ℕ) where
  -- past the first place the rule stays
  rule_stays : (n at : ℕ) (s : State) → 1 ≤ at → (taking n places slots j at s).reached.rule ≡ s.rule
  unfolding taking
  rule_stays zero at s l = refl
  rule_stays (suc n) at s l = go (read_at j at) refl (rule_stays n)
    where
      go : (rd : Read) → read_at j at ≡ rd → ((at : ℕ) (s : State) → 1 ≤ at → (taking n places slots j at s).reached.rule ≡ s.rule)
          → (turn places slots at s rd (λ next s'. taking n places slots j next s')).reached.rule ≡ s.rule
      go End e ih = refl
      go Cut e ih = refl
      go Malformed e ih = refl
      go (Ruled next) e ih = let z = (rule_place j at next e).0 in absurd (omega arith)
      go (Whole r next) e ih = by (refused (refusals places slots s (event_of r))) (beq (answer_of r) (answer_to s (event_of r)))
        where
          by : (x y : Bool) → (cond x (halt 11 at s) (cond y (taking n places slots j next (perform s (event_of r))) (halt 12 at s))).reached.rule ≡ s.rule
          by true y = refl
          by false false = refl
          by false true = ih next (perform s (event_of r)) (past_whole j at r next e)

  rule_read : (n : ℕ) (s : State) → s.rule ≡ Alone → length j ≤ n → (taking n places slots j 0 s).reached.rule ≡ rule_in (read_at j 0)
  unfolding taking
  rule_read zero s a l = a ∙ no_rule j l
  rule_read (suc n) s a l = go (read_at j 0) refl
    where
      go : (rd : Read) → read_at j 0 ≡ rd → (turn places slots 0 s rd (λ next s'. taking n places slots j next s')).reached.rule ≡ rule_in rd
      go End e = a
      go Cut e = a
      go Malformed e = a
      go (Ruled next) e = let z = (rule_place j 0 next e).1 in rule_stays n next (ruled s) (omega arith)
      go (Whole r next) e = by (refused (refusals places slots s (event_of r))) (beq (answer_of r) (answer_to s (event_of r)))
        where
          by : (x y : Bool) → (cond x (halt 11 0 s) (cond y (taking n places slots j next (perform s (event_of r))) (halt 12 0 s))).reached.rule ≡ Alone
          by true y = a
          by false false = a
          by false true = rule_stays n next (perform s (event_of r)) (past_whole j 0 r next e) ∙ a

-- a start by the first rule
starts_alone : (tiles : List ℕ) (count : ℕ) (operations journal : List ℕ) → (start_call Alone tiles count operations journal).after.session.rule ≡ Alone
unfolding start_call
starts_alone tiles count operations journal = go (eqb (start_call Alone tiles count operations journal).told.number 0)
  where
    go : (b : Bool) → (cond b (ruled_world Alone tiles count operations journal) (world empty_session tiles operations journal)).session.rule ≡ Alone
    go true = refl
    go false = refl

pub runs_by : (journal tiles : List ℕ) (count : ℕ) (operations : List ℕ) → (stopped journal tiles count operations).reached.rule ≡ rule_in (read_at journal 0)
runs_by journal tiles count operations =
    rule_read (length tiles) (length operations) journal (length journal) (state (start_call Alone tiles count operations []).after) (starts_alone tiles count operations []) (omega arith)
