-- A state that stands, written into the tables: it is what they hold, and they are sound
use Rattle.std.specs.Prelude.{Bool, false, true, List, [], ◌++◌, ◌∷◌, map, ◌≡◌, refl, ◌*◌, ◌+◌, ◌-◌, ◌<◌, ◌≤◌, suc, zero, ℕ, drop, get_or, replicate, set, take}
use Rattle.std.proofs.Common.{◌∙◌, sym, arith, length-append, length-drop, take-append-drop, drop_at, length-take-le}
use Rattle.std.proofs.Math.Path.{ap, ap₂, subst}
use Rattle.std.proofs.Math.ListN.{length, length-map}
use Rattle.std.proofs.lemmas.List.{length-replicate}
use Rattle.std.proofs.Math.Seq.{drop-append_seam, length-sets, take-append_seam, take_at}
use Rattle.std.proofs.lemmas.List.Edits.{sets-eq}
use Rattle.lists.specs.Lists.{All, padded}
use Rattle.lists.specs.Truth.{never}
use Rattle.strict.specs.Book.{places_taken, spoken_by}
use Rattle.strict.specs.Operations.{Op, kind}
use Rattle.strict.specs.Sound.{SoundTable}
use Rattle.grid.proofs.Laws.Keys.{key_small}
use Rattle.grid.specs.Levels.{levels_of}
use Rattle.grid.specs.Tile.{is_key}
use Rattle.service.specs.Admission.{State, open_marks}
use Rattle.service.specs.Calls.{noting, stored}
use Rattle.service.specs.Entry.{entry_of, op_in}
use Rattle.service.proofs.Laws.Entries.{kind_back, kind_range, op_back, settled_sound, sound_settled}
use Rattle.service.proofs.Laws.Standing.{Stands, Storable}
use Rattle.service.specs.Limits.{job_count}
use Rattle.service.specs.Sound.{Entry, Sound, Tabled}
use Rattle.service.specs.World.{World, state, used_journal, used_operations, used_tiles}

pub open_small : (ms : List Bool) (j : ℕ) → get_or ms j false ≡ true → j < length ms
open_small [] j e = never (sym e)
open_small (b ∷ bs) zero e = omega arith
open_small (b ∷ bs) (suc j) e = let h = open_small bs j e in omega arith

-- a table of n places
module _ (n : ℕ) (xs : List ℕ) where
  pub length_padded : length xs ≤ n → length (padded n xs) ≡ n
  length_padded h = simp (length-append, length-replicate) (omega arith)

  pub rest_padded : drop (length xs) (padded n xs) ≡ replicate (n - length xs) 0
  rest_padded = drop-append_seam xs (replicate (n - length xs) 0)

  pub used_padded : take (length xs) (padded n xs) ≡ xs
  used_padded = take-append_seam xs (replicate (n - length xs) 0)

pub zeros_replicate : (n : ℕ) → All (λ (x : ℕ). x ≡ 0) (replicate n 0)
zeros_replicate zero = tt
zeros_replicate (suc n) = (refl, zeros_replicate n)

-- entries
module _ (marks : List Bool) (few : length marks ≡ job_count) where
  module _ (u : Op) (h : Storable marks u) where
    job_small : u.job < 256
    job_small = let l = open_small marks u.job h.of_open in omega arith

    back : op_in (entry_of u) ≡ u
    back = op_back u job_small (key_small u.key h.valid) h.not_done

    entry_encode : Entry marks (entry_of u)
    entry_encode =
        let j = job_small in
        let k = key_small u.key h.valid in
        let b = kind_range u.proc u.found in
        let m : kind u.proc u.found < 256 = let l = b.1 in omega arith in
        let e = kind_back u.sheet (kind u.proc u.found) u.job u.key m j k in
        record {
          kind_low = let l = b.0 in omega arith;
          kind_high = let l = b.1 in omega arith;
          job_open = ap (λ (v : Op). get_or marks v.job false) back ∙ h.of_open;
          key_valid = ap (λ (v : Op). is_key v.key) back ∙ h.valid;
        }

  pub decoded : (us : List Op) → All (Storable marks) us → map op_in (map entry_of us) ≡ us
  decoded [] h = refl
  decoded (u ∷ us) h = ap₂ {C = List Op} (λ v vs. v ∷ vs) (back u h.0) (decoded us h.1)

  pub entries_encode : (us : List Op) → All (Storable marks) us → All (Entry marks) (map entry_of us)
  entries_encode [] h = tt
  entries_encode (u ∷ us) h = (entry_encode u h.0, entries_encode us h.1)

-- bytes that are noted stand after the used ones
pub journal_noted : (w : World) (bytes : List ℕ) → w.session.journal + length bytes ≤ length w.journal → used_journal (noting w bytes) ≡ used_journal w ++ bytes
journal_noted w bytes fit =
    let i = w.session.journal in
    let j = w.journal in
    ap (take (i + length bytes)) (sets-eq bytes j i fit)
    ∙ take_at (take i j ++ bytes) (drop (i + length bytes) j) (i + length bytes)
    (length-append (take i j) bytes ∙ ap (λ n. n + length bytes) (length-take-le i j (omega arith)))

-- what is stored is held
module _ (w : World) (s : State) (bytes : List ℕ) (h : Stands (length w.tiles) (length w.operations) s) where
  encoded : List ℕ
  encoded = map entry_of s.book.table

  used_encoded : take (length s.book.table) (padded (length w.operations) encoded) ≡ encoded
  unfolding encoded
  used_encoded = take_at encoded _ (length s.book.table) (length-map s.book.table entry_of)

  has_table : map op_in (used_operations (stored w s bytes)) ≡ s.book.table
  unfolding encoded
  has_table = ap (map op_in) used_encoded ∙ decoded s.marks h.all_jobs s.book.table h.entries

  has_tiles : used_tiles (stored w s bytes) ≡ s.book.tiles
  has_tiles = used_padded (length w.tiles) s.book.tiles

  pub state_stored : state (stored w s bytes) ≡ s
  state_stored i = record { rule = s.rule; marks = s.marks; book = record { tiles = has_tiles i; table = has_table i } }

  pub places_stored : length (stored w s bytes).tiles ≡ length w.tiles
  places_stored = let r = h.room in length_padded (length w.tiles) s.book.tiles (omega arith)

  pub slots_stored : length (stored w s bytes).operations ≡ length w.operations
  unfolding encoded
  slots_stored =
      let n : length encoded ≡ length s.book.table = length-map s.book.table entry_of in
      let r = h.fits in
      length_padded (length w.operations) encoded (omega arith)

  stored_entries : All (Entry s.marks) (used_operations (stored w s bytes))
  unfolding encoded
  stored_entries = rw used_encoded (entries_encode s.marks h.all_jobs s.book.table h.entries)

  pub tabled_stored : Tabled w → Tabled (stored w s bytes)
  unfolding encoded
  tabled_stored o =
      let n : length encoded ≡ length s.book.table = length-map s.book.table entry_of in
      let a = places_stored in
      let b = slots_stored in
      record {
        some_tiles = let x = o.some_tiles in omega arith;
        few_tiles = let x = o.few_tiles in omega arith;
        some_operations = let x = o.some_operations in omega arith;
        few_operations = let x = o.few_operations in omega arith;
        tiles_fit = let x = h.room in omega arith;
        operations_fit = let x = h.fits in omega arith;
        keys = rw has_tiles h.keys;
        ascending = rw has_tiles h.ascending;
        tiles_rest = subst (All (λ (x : ℕ). x ≡ 0)) (sym (rest_padded (length w.tiles) s.book.tiles)) (zeros_replicate (length w.tiles - length s.book.tiles));
        entries = stored_entries;
        operations_rest = subst (All (λ (x : ℕ). x ≡ 0)) (sym (drop_at encoded _ (length s.book.table) n)) (zeros_replicate (length w.operations - length encoded));
        settled = sound_settled s.rule s.marks (used_tiles (stored w s bytes)) (used_operations (stored w s bytes)) stored_entries
            (subst (λ (x : State). SoundTable x.rule x.book.tiles x.book.table) (sym state_stored) h.table);
        room = subst (λ (x : State). places_taken x.rule x.book ≤ length (stored w s bytes).tiles) (sym state_stored) (rw a h.room);
        levels_counted = ap levels_of (sym has_tiles);
        spoken_counted = ap₂ (spoken_by s.rule) (sym has_tiles) (sym has_table);
      }

  pub sound_stored : Sound w → w.session.journal + length bytes ≤ length w.journal
      → 4 * open_marks s.marks ≤ length w.journal - (w.session.journal + length bytes) → Sound (stored w s bytes)
  sound_stored o fit ends =
      let d : length (stored w s bytes).journal ≡ length w.journal = length-sets w.journal w.session.journal bytes in
      record {
        tables = tabled_stored o.tables;
        short_journal = let x = o.short_journal in omega arith;
        journal_fits = omega arith;
        ends_fit = rw d ends;
      }

  pub journal_stored : w.session.journal + length bytes ≤ length w.journal → used_journal (stored w s bytes) ≡ used_journal w ++ bytes
  journal_stored fit = journal_noted w bytes fit

-- what a sound world holds stands
storable_decode : (marks : List Bool) (es : List ℕ) → All (Entry marks) es → All (Storable marks) (map op_in es)
storable_decode marks [] h = tt
storable_decode marks (e ∷ es) h = (record { of_open = h.0.job_open; valid = h.0.key_valid; not_done = refl }, storable_decode marks es h.1)

pub tabled_stands : (w : World) → length w.session.marks ≡ job_count → Tabled w → Stands (length w.tiles) (length w.operations) (state w)
tabled_stands w m o =
    record {
      all_jobs = m;
      keys = o.keys;
      ascending = o.ascending;
      entries = storable_decode w.session.marks (used_operations w) o.entries;
      table = settled_sound w.session.rule w.session.marks (used_tiles w) (used_operations w) o.entries o.settled;
      room = o.room;
      fits = let f = o.operations_fit in rw (length-map (used_operations w) op_in, length-take-le w.session.operations w.operations) o.operations_fit;
    }

-- marks
pub opens_one : (ms : List Bool) (j : ℕ) → get_or ms j false ≡ false → j < length ms → open_marks (set ms j true) ≡ suc (open_marks ms)
opens_one [] j e l = absurd (omega arith)
opens_one (true ∷ bs) zero e l = never e
opens_one (false ∷ bs) zero e l = refl
opens_one (true ∷ bs) (suc j) e l = ap suc (opens_one bs j e (omega arith))
opens_one (false ∷ bs) (suc j) e l = opens_one bs j e (omega arith)

pub closes_one : (ms : List Bool) (j : ℕ) → get_or ms j false ≡ true → suc (open_marks (set ms j false)) ≡ open_marks ms
closes_one [] j e = never (sym e)
closes_one (true ∷ bs) zero e = refl
closes_one (false ∷ bs) zero e = never (sym e)
closes_one (true ∷ bs) (suc j) e = ap suc (closes_one bs j e)
closes_one (false ∷ bs) (suc j) e = closes_one bs j e

-- a table with nothing but 0 behind what is used
all_zeros : (xs : List ℕ) → All (λ x. x ≡ 0) xs → xs ≡ replicate (length xs) 0
all_zeros [] h = refl
all_zeros (x ∷ xs) h = ap₂ {C = List ℕ} (λ y ys. y ∷ ys) h.0 (all_zeros xs h.1)

pub padded_zeros : (count : ℕ) (l : List ℕ) → count ≤ length l → All (λ x. x ≡ 0) (drop count l) → l ≡ padded (length l) (take count l)
padded_zeros count l fit zeros =
    sym (take-append-drop count l)
    ∙ ap (λ r. take count l ++ r) (all_zeros (drop count l) zeros ∙ rw (length-drop count l, length-take-le count l fit))
