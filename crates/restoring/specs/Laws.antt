-- What recoveries do to the tiles
use Rattle.std.specs.Prelude.{Bool, cond, false, true, List, [], ◌∷◌, map, ◌≢◌, ◌≡◌, refl, ◌-◌, ◌<◌, ◌≤◌, suc, zero, ℕ, eqb, drop, get_or, length, take}
use Rattle.std.proofs.Common.{◌∙◌, ap, sym, arith, drop_of_length-le, drop-cons, eq-eqb, ne_eqb}
use Rattle.lists.specs.Lists.{All}
use Rattle.lists.specs.Truth.{by_cond}
use Rattle.strict.specs.Book.{counted, recover}
use Rattle.strict.proofs.Laws.Counted.{counted_abort}
use Rattle.strict.proofs.Laws.Members.{ascending_apply}
use Rattle.strict.specs.Operations.{apply, clear, put, skip, undo}
use Rattle.strict.specs.Tiles.{Ascending, delete, insert_tile}
use Rattle.grid.specs.Tile.{is_key}
use Rattle.service.specs.Entry.{job_in, key_in, kind_in, op_in}
use Rattle.entries.specs.Laws.{decoded}
use Rattle.levels.specs.declared.Tally.{Tally}
use Rattle.restoring.specs.Recovery.{Undoable, recovered, recovered_job, undone_from}

-- a recovery by the entry's kind
module _ (e : ℕ) (t : List ℕ) where
  pub recovered_one : kind_in e ≡ 1 → recovered e t ≡ delete (key_in e) t
  recovered_one h = rw h

  pub recovered_three : kind_in e ≡ 3 → recovered e t ≡ insert_tile (key_in e) t
  recovered_three h = rw h

  -- the same by a number that was read as the entry's key
  pub recovered_delete : {k : ℕ} → kind_in e ≡ 1 → k ≡ key_in e → recovered e t ≡ delete k t
  recovered_delete one own = recovered_one one ∙ ap (λ k. delete k t) (sym own)

  pub recovered_insert : {k : ℕ} → kind_in e ≡ 3 → k ≡ key_in e → recovered e t ≡ insert_tile k t
  recovered_insert three own = recovered_three three ∙ ap (λ k. insert_tile k t) (sym own)

  pub recovered_other : kind_in e ≢ 1 → kind_in e ≢ 3 → recovered e t ≡ t
  recovered_other a b = rw (ne_eqb (kind_in e) 1 a, ne_eqb (kind_in e) 3 b)

-- THE SAME AS THE BOOK'S
undo_entry : (e : ℕ) (t : List ℕ) → undo (op_in e) t ≡ recovered e t
undo_entry e t = rw (decoded (kind_in e)).recovers (go (eqb (kind_in e) 1) (eqb (kind_in e) 3))
  where
    go : (a b : Bool) → apply (cond a clear (cond b put skip)) (key_in e) t ≡ cond a (delete (key_in e) t) (cond b (insert_tile (key_in e) t) t)
    go true b = refl
    go false true = refl
    go false false = refl

pub recover_entries : (job : ℕ) (es t : List ℕ) → recover job (map op_in es) t ≡ recovered_job job es t
recover_entries job [] t = refl
recover_entries job (e ∷ es) t =
    ap (λ x. cond (eqb job (job_in e)) (undo (op_in e) x) x) (recover_entries job es t)
    ∙ ap (λ x. cond (eqb job (job_in e)) x (recovered_job job es t)) (undo_entry e (recovered_job job es t))

-- ORDER
recovered_ascending : (e : ℕ) (t : List ℕ) → Ascending t → Ascending (recovered e t)
recovered_ascending e t asc =
    by_cond Ascending (eqb (kind_in e) 1) (λ _. ascending_apply clear (key_in e) t asc)
    (λ _. by_cond Ascending (eqb (kind_in e) 3) (λ _. ascending_apply put (key_in e) t asc) (λ _. asc))

job_ascending : (job : ℕ) (es t : List ℕ) → Ascending t → Ascending (recovered_job job es t)
job_ascending job [] t asc = asc
job_ascending job (e ∷ es) t asc =
    let ih = job_ascending job es t asc in
    by_cond Ascending (eqb job (job_in e)) (λ _. recovered_ascending e (recovered_job job es t) ih) (λ _. ih)

-- ROOM: entries that are left out are not counted
counted_from : (i : ℕ) (es t : List ℕ) → counted t (map op_in (drop i es)) ≤ counted t (map op_in es)
counted_from zero es t = omega arith
counted_from (suc i) [] t = omega arith
counted_from (suc i) (e ∷ es) t = let ih = counted_from i es t in omega arith

-- FROM THE LAST ENTRY DOWN: with i entries left, those behind them have been undone
undone_more : (i job : ℕ) (es t : List ℕ) → 0 < i → i ≤ length es
    → undone_from (i - 1) job es t ≡ cond (eqb job (job_in (get_or es (i - 1) 0))) (recovered (get_or es (i - 1) 0) (undone_from i job es t)) (undone_from i job es t)
undone_more i job es t some inside =
    let next : suc (i - 1) ≡ i = omega arith in
    ap (λ l. recovered_job job l t) (drop-cons es (i - 1) 0 (omega arith))
    ∙ ap (λ n. cond (eqb job (job_in (get_or es (i - 1) 0))) (recovered (get_or es (i - 1) 0) (undone_from n job es t)) (undone_from n job es t)) next

all_at : (P : ℕ → Type 0) (l : List ℕ) (i : ℕ) → i < length l → All P l → P (get_or l i 0)
all_at P [] i h a = absurd (omega arith)
all_at P (x ∷ xs) zero h a = a.0
all_at P (x ∷ xs) (suc i) h a = all_at P xs i (omega arith) a.1

module _ {tiles : List ℕ} {c : Tally} {es : List ℕ} (u : Undoable tiles c es) (job : ℕ) where
  abbrev t : List ℕ
  t = take c.tiles tiles

  pub none_undone : undone_from (length es) job es t ≡ t
  none_undone = ap (λ l. recovered_job job l t) (drop_of_length-le es {i = length es} (omega arith))

  pub undone_ascending : (i : ℕ) → Ascending (undone_from i job es t)
  undone_ascending i = job_ascending job (drop i es) t u.tallied.table.ascending

  pub undone_fits : (i : ℕ) → length (undone_from i job es t) ≤ length tiles
  undone_fits i =
      let left = counted_abort job t (map op_in (drop i es)) u.tallied.table.ascending in
      let same = ap length (recover_entries job (drop i es) t) in
      let few = counted_from i es t in
      let room = u.room in
      omega arith

  module _ {i : ℕ} (some : 0 < i) (inside : i ≤ length es) where
    pub entry_valid : is_key (key_in (get_or es (i - 1) 0)) ≡ true
    entry_valid = all_at (λ e. is_key (key_in e) ≡ true) es (i - 1) (omega arith) u.keys

    pub undone_own : job_in (get_or es (i - 1) 0) ≡ job → undone_from (i - 1) job es t ≡ recovered (get_or es (i - 1) 0) (undone_from i job es t)
    undone_own own = undone_more i job es t some inside ∙ rw (eq-eqb job (job_in (get_or es (i - 1) 0)) (sym own))

    pub undone_other : job_in (get_or es (i - 1) 0) ≢ job → undone_from (i - 1) job es t ≡ undone_from i job es t
    undone_other other = undone_more i job es t some inside ∙ rw (ne_eqb job (job_in (get_or es (i - 1) 0)) (λ p. other (sym p)))
