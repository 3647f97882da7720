-- Where a job fails as one: held though strict, a place spoken for that no outcome needs, and why the newest is undone first
use Rattle.std.specs.Prelude.{Bool, ◌||◌, cond, false, true, List, [], ◌∷◌, ◌≡◌, refl, ◌≤◌, ℕ, eqb, length}
use Rattle.std.proofs.Math.Option.{some}
use Rattle.std.proofs.Common.{arith}
use Rattle.strict.specs.Book.{Book, book_after, held_by, needs_place, oldest_first, recover, places_taken}
use Rattle.strict.specs.Histories.{Event, kept, open_job, operation}
use Rattle.strict.specs.Operations.{Op, begun, undo}
use Rattle.strict.specs.Strict.{Log, SameAnswers, Strict, ◌▷◌, empty, in_groups, run, without}
use Rattle.strict.specs.declared.Procedure.TheVariants.{Del, Ins, Mem}
use Rattle.strict.specs.declared.Rule.TheVariants.{Together}

-- two tiles, and a job that inserted A and deleted it again
abbrev A : ℕ
A = 1073987589

abbrev B : ℕ
B = 1073741824

abbrev inserted_deleted : Log Event
inserted_deleted = empty ▷ open_job 1 ▷ open_job 2 ▷ operation 1 0 Ins A ▷ operation 1 0 Del A

abbrev there : Book
there = book_after [] inserted_deleted

-- what is left of those two, and of one more by job 2, where the jobs are dropped or not
left : Op → Bool → Bool → Log Op
left z a b =
    let one = cond a empty (empty ▷ begun 1 Ins A []) in
    let two = cond a one (one ▷ begun 1 Del A (A ∷ [])) in
    cond b two (two ▷ z)

-- another job's mem of A is held, and yet strict: the converse of `admitted_strict` does not hold
pub held_though_strict : (held_by Together there 2 Mem A ≡ some (record { job = 1; sheet = 0 })) × Strict Together [] (kept [] (inserted_deleted ▷ operation 2 0 Mem A))
unfolding left
held_though_strict = (refl, λ d. record { same_answers = answers (d 1) (d 2); taken_back = λ g e. same_tiles (d 1) (d 2) (eqb g 1) (eqb g 2) })
  where
    z : Op
    z = begun 2 Mem A []

    undoing : Bool → Bool → List ℕ → List ℕ
    undoing u v t = let t₁ = cond v t t in let t₂ = cond u (undo (begun 1 Del A (A ∷ [])) t₁) t₁ in cond u (undo (begun 1 Ins A []) t₂) t₂

    answers : (a b : Bool) → SameAnswers [] (left z a b)
    answers true true = tt
    answers true false = (tt, refl)
    answers false true = ((tt, refl), refl)
    answers false false = (((tt, refl), refl), refl)

    same_tiles : (a b u v : Bool) → undoing u v (run [] (left z a b)) ≡ run [] (left z (u || a) (v || b))
    same_tiles true true true true = refl
    same_tiles true true true false = refl
    same_tiles true true false true = refl
    same_tiles true true false false = refl
    same_tiles true false true true = refl
    same_tiles true false true false = refl
    same_tiles true false false true = refl
    same_tiles true false false false = refl
    same_tiles false true true true = refl
    same_tiles false true true false = refl
    same_tiles false true false true = refl
    same_tiles false true false false = refl
    same_tiles false false true true = refl
    same_tiles false false true false = refl
    same_tiles false false false true = refl
    same_tiles false false false false = refl

-- in one place, its insert of B is refused, though every choice of whole jobs leaves one tile at most
pub spoken_for_though_free : (needs_place Together there.table (begun 2 Ins B []) ≡ true) × (places_taken Together there ≡ 1)
    × ((d : ℕ → Bool) → length (run [] (without (in_groups Together d) (kept [] (inserted_deleted ▷ operation 2 0 Ins B)))) ≤ 1)
unfolding left
spoken_for_though_free = (refl, refl, λ d. fits (d 1) (d 2))
  where
    fits : (a b : Bool) → length (run [] (left (begun 2 Ins B []) a b)) ≤ 1
    fits true true = omega arith
    fits true false = omega arith
    fits false true = omega arith
    fits false false = omega arith

-- A deleted and inserted again: newest first it is back, oldest first it would be gone
pub newest-first :
    let us = begun 1 Del A (A ∷ []) ∷ begun 1 Ins A [] ∷ [] in
    (recover 1 us (A ∷ []) ≡ A ∷ []) × (oldest_first 1 us (A ∷ []) ≡ [])
newest-first = (refl, refl)
