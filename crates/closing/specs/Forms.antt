-- What the end of a job leaves in the tables of a sound world, in the numbers that the code moves
use Rattle.std.specs.Prelude.{Bool, false, List, [], ◌∷◌, map, ◌≡◌, ◌+◌, ℕ, eqb, length, set}
use Rattle.std.proofs.Common.{◌∙◌, ap, ap₂, sym, arith}
use Rattle.std.proofs.lemmas.List.{length-map}
use Rattle.lists.specs.Lists.{All, padded}
use Rattle.lists.specs.Truth.{by_cond}
use Rattle.strict.specs.Book.{others, recover, spoken_by, spoken_of}
use Rattle.strict.specs.Histories.{abort, commit, mine}
use Rattle.strict.proofs.Laws.Released.{spoken_abort, spoken_commit}
use Rattle.grid.specs.Levels.{levels_of}
use Rattle.service.specs.Admission.{perform}
use Rattle.service.specs.Calls.{with_state}
use Rattle.service.specs.Entry.{entry_of, job_in, op_in}
use Rattle.service.proofs.Laws.Entries.{entries_back}
use Rattle.service.specs.Sound.{Entry, Tabled}
use Rattle.service.specs.World.{World, state, used_operations, used_tiles, world}
use Rattle.service.specs.declared.Session.{Session}
use Rattle.levels.specs.Tally.{tally_of}
use Rattle.levels.specs.declared.Tally.{Tally}
use Rattle.entries.specs.Laws.{others_without}
use Rattle.entries.specs.Table.{without_job}
use Rattle.admission.specs.Laws.{tiles_count}
use Rattle.engine.specs.Counting.{with_tally}
use Rattle.engine.specs.Forms.{same_tiles, sound_book}
use Rattle.restoring.specs.Laws.{recover_entries}
use Rattle.restoring.specs.Recovery.{recovered_job}
use Rattle.closing.specs.Ending.{closed}

-- ENTRIES
entries_without : (marks : List Bool) (job : ℕ) (es : List ℕ) → All (Entry marks) es → All (Entry marks) (without_job job es)
entries_without marks job [] h = tt
entries_without marks job (e ∷ es) h =
    let ih = entries_without marks job es h.1 in
    by_cond (All (Entry marks)) (eqb job (job_in e)) (λ _. ih) (λ _. (h.0, ih))

-- THE FORMS
module _ (w : World) (o : Tabled w) (job : ℕ) where
  abbrev left : List ℕ
  left = without_job job (used_operations w)

  others_left : map entry_of (others job (map op_in (used_operations w))) ≡ left
  others_left =
      ap (map entry_of) (sym (others_without job (used_operations w)))
      ∙ entries_back w.session.marks left (entries_without w.session.marks job (used_operations w) o.entries)

  others_count : length (others job (map op_in (used_operations w))) ≡ length left
  others_count = ap length (sym (others_without job (used_operations w))) ∙ length-map left op_in

  -- what is spoken for without the job
  abbrev spoken_left : ℕ
  spoken_left = spoken_by w.session.rule (used_tiles w) (others job (map op_in (used_operations w)))

  pub spoken_left_lem : spoken_left + spoken_of w.session.rule (mine job) (used_tiles w) (map op_in (used_operations w)) ≡ w.session.spoken
  spoken_left_lem = spoken_commit w.session.rule job (used_tiles w) (map op_in (used_operations w)) (sound_book w o) ∙ sym o.spoken_counted

  pub commit_form : with_state w (perform (state w) (commit job)) ≡ world (closed w.session job (length left) spoken_left) w.tiles (padded (length w.operations) left) w.journal
  commit_form i =
      world
      (record {
        rule = w.session.rule;
        marks = set w.session.marks job false;
        tiles = tiles_count w o i;
        operations = others_count i;
        journal = w.session.journal;
        levels = sym o.levels_counted i;
        spoken = spoken_left;
      })
      (same_tiles w o i) (padded (length w.operations) (others_left i)) w.journal

  abbrev undone_tiles : List ℕ
  undone_tiles = recovered_job job (used_operations w) (used_tiles w)

  -- the recoveries leave it so
  spoken_undone : spoken_by w.session.rule (recover job (map op_in (used_operations w)) (used_tiles w)) (others job (map op_in (used_operations w))) ≡ spoken_left
  spoken_undone =
      let a = spoken_abort w.session.rule job (used_tiles w) (map op_in (used_operations w)) (sound_book w o) in
      let b = spoken_commit w.session.rule job (used_tiles w) (map op_in (used_operations w)) (sound_book w o) in
      omega arith

  pub abort_form : with_state w (perform (state w) (abort job))
      ≡ world (with_tally (closed w.session job (length left) spoken_left) (tally_of undone_tiles)) (padded (length w.tiles) undone_tiles) (padded (length w.operations) left) w.journal
  abort_form i =
      let t = recover_entries job (used_operations w) (used_tiles w) i in
      world
      (record {
        rule = w.session.rule;
        marks = set w.session.marks job false;
        tiles = length t;
        operations = others_count i;
        journal = w.session.journal;
        levels = levels_of t;
        spoken = spoken_undone i;
      })
      (padded (length w.tiles) t) (padded (length w.operations) (others_left i)) w.journal

  -- WHAT THE CODE LEAVES
  pub aborted : (c : Tally) (s : Session) (tiles operations : List ℕ) → c ≡ tally_of undone_tiles → tiles ≡ padded (length w.tiles) undone_tiles
      → s ≡ closed w.session job (length left) spoken_left → operations ≡ padded (length w.operations) left
      → world (with_tally s c) tiles operations w.journal ≡ with_state w (perform (state w) (abort job))
  aborted c s tiles operations a b x d = (λ i. world (with_tally (x i) (a i)) (b i) (d i) w.journal) ∙ sym abort_form

  pub after_commit : (s : Session) (operations : List ℕ) → s ≡ closed w.session job (length left) spoken_left → operations ≡ padded (length w.operations) left
      → world s w.tiles operations w.journal ≡ with_state w (perform (state w) (commit job))
  after_commit s operations is rest = ap₂ {C = World} (λ (x : Session) (y : List ℕ). world x w.tiles y w.journal) is rest ∙ sym commit_form
