-- Ends of a group of open jobs: what each order leaves
use Rattle.std.specs.Prelude.{false, true, List, [], ◌++◌, ◌∷◌, map, ◌≢◌, ◌≡◌, refl, ◌*◌, ◌+◌, suc, ℕ, drop, get_or, length, take}
use Rattle.std.proofs.Common.{◌∙◌, ap, subst, sym, arith, length-append, get_or-set_other, length-take-le}
use Rattle.std.proofs.lemmas.List.{length-map}
use Rattle.std.proofs.lemmas.List.Edits.{sets-eq}
use Rattle.lists.specs.Lists.{All, padded, sets_sets}
use Rattle.strict.specs.Histories.{abort, commit}
use Rattle.service.specs.Admission.{State, is_open}
use Rattle.service.specs.Calls.{carried, session_of, stored}
use Rattle.service.specs.Claims.{Keeps}
use Rattle.service.specs.Entry.{entry_of, op_in}
use Rattle.service.specs.History.{call, event}
use Rattle.service.specs.Journal.{encode, record_of}
use Rattle.service.proofs.Laws.Accepting.{after_stands, carried_state, left_carried, passed, passes}
use Rattle.service.proofs.Laws.Entries.{entries_back}
use Rattle.service.proofs.Laws.Soundness.{sound_is}
use Rattle.service.proofs.Laws.Standing.{Stands, stands_perform}
use Rattle.service.proofs.Laws.Storing.{open_small, padded_zeros, places_stored, slots_stored}
use Rattle.service.specs.Sound.{Tabled, sound_B}
use Rattle.service.proofs.Theorems.{accepted_keeps, ends_accepted}
use Rattle.service.specs.Told.{bare}
use Rattle.service.specs.World.{World, state, used_journal, used_operations, used_tiles, world}
use Rattle.service.specs.declared.Told.{Told}
use Rattle.ends.specs.Ends.{AllDone, End, Group, Reordered, after, behind, cancels, end_records, ending, first, keeps, nothing, swapped, then, whose}
use Rattle.ends.proofs.Laws.Orders.{ends, marks_end, state_either_first}

-- THE STATE
abbrev pub all_ended : State → List End → State
all_ended s [] = s
all_ended s (e ∷ es) = all_ended (ends s e) es

-- what is open stays open, but for the job that ends
group_on : (s : State) (e : End) (es : List End) → All (λ f. whose e ≢ whose f) es → Group s es → Group (ends s e) es
group_on s e [] d g = tt
group_on s e (f ∷ es) d g = (
  ap (λ ms. get_or ms (whose f) false) (marks_end s e) ∙ get_or-set_other s.marks (whose e) (whose f) false false (λ z. d.0 (sym z)) ∙ g.0,
  g.1,
  group_on s e es d.1 g.2,
)

module _ (places slots : ℕ) where
  ends_stand : (s : State) (e : End) → is_open s (whose e) ≡ true → Stands places slots s → Stands places slots (ends s e)
  ends_stand s (keeps job) o h = let l = open_small s.marks job o in let n = h.all_jobs in stands_perform places slots s h (commit job) (omega arith) (rw o)
  ends_stand s (cancels job) o h = let l = open_small s.marks job o in let n = h.all_jobs in stands_perform places slots s h (abort job) (omega arith) (rw o)

-- a reordered group is a group
all_same : (P : End → Type 0) {es fs : List End} → Reordered es fs → All P es → All P fs
all_same P nothing h = h
all_same P (first e r) h = (h.0, all_same P r h.1)
all_same P (swapped e f es) h = (h.1.0, (h.0, h.1.1))
all_same P (then r q) h = all_same P q (all_same P r h)

pub group_same : (s : State) {es fs : List End} → Reordered es fs → Group s es → Group s fs
group_same s nothing g = g
group_same s (first e r) g = (g.0, all_same (λ f. whose e ≢ whose f) r g.1, group_same s r g.2)
group_same s (swapped e f es) g = (g.2.0, (λ p. g.1.0 (sym p), g.2.1), (g.0, g.1.1, g.2.2))
group_same s (then r q) g = group_same s q (group_same s r g)

-- and leaves the same
pub states_same : (places slots : ℕ) (s : State) {es fs : List End} → Reordered es fs → Stands places slots s → Group s es → all_ended s es ≡ all_ended s fs
states_same places slots s nothing h g = refl
states_same places slots s (first e {es} r) h g = states_same places slots (ends s e) r (ends_stand places slots s e g.0 h) (group_on s e es g.1 g.2)
states_same places slots s (swapped e f es) h g = ap (λ x. all_ended x es) (state_either_first s.rule s h.ascending h.table e f g.1.0)
states_same places slots s (then r q) h g = states_same places slots s r h g ∙ states_same places slots s q h (group_same s r g)

-- THE WORLD
-- what a sound world holds, written back, is that world
written_back : (w : World) → Tabled w → stored w (state w) [] ≡ w
written_back w o =
    let a : length (used_tiles w) ≡ w.session.tiles = length-take-le w.session.tiles w.tiles o.tiles_fit in
    let b : length (map op_in (used_operations w)) ≡ w.session.operations = length-map (used_operations w) op_in ∙ length-take-le w.session.operations w.operations o.operations_fit in
    let c : w.session.journal + 0 ≡ w.session.journal = omega arith in
    let t = sym (padded_zeros w.session.tiles w.tiles o.tiles_fit o.tiles_rest) in
    let u = ap (padded (length w.operations)) (entries_back w.session.marks (used_operations w) o.entries)
    ∙ sym (padded_zeros w.session.operations w.operations o.operations_fit o.operations_rest) in
    λ i. world
    (record {
      rule = w.session.rule;
      marks = w.session.marks;
      tiles = a i;
      operations = b i;
      journal = c i;
      levels = sym o.levels_counted i;
      spoken = sym o.spoken_counted i;
    })
    (t i) (u i) w.journal

-- to store twice is to store what came last, with the bytes of both
stored_twice : (w : World) (s : State) (bs : List ℕ) (s' : State) (cs : List ℕ) → Stands (length w.tiles) (length w.operations) s
    → stored (stored w s bs) s' cs ≡ stored w s' (bs ++ cs)
stored_twice w s bs s' cs h =
    let a = places_stored w s bs h in
    let b = slots_stored w s bs h in
    let l = length-append bs cs in
    let n : w.session.journal + length bs + length cs ≡ w.session.journal + length (bs ++ cs) = omega arith in
    let j = sets_sets w.journal w.session.journal bs cs in
    λ i. world (session_of s' (n i))
    (padded (a i) s'.book.tiles) (padded (b i) (map entry_of s'.book.table)) (j i)

-- one end
module _ (w : World) (full : length w.session.marks ≡ 64) (sound : sound_B w ≡ true) where
  end_done : (e : End) → is_open (state w) (whose e) ≡ true → (call w (ending e)).told ≡ bare 0
  end_done (keeps job) o = (ends_accepted w job full sound o).0
  end_done (cancels job) o = (ends_accepted w job full sound o).1

  module _ (e : End) (o : is_open (state w) (whose e) ≡ true) where
    ok : (call w (ending e)).told.number ≡ 0
    ok = ap (λ (t : Told). t.number) (end_done e o)

    end_stands : Stands (length w.tiles) (length w.operations) (ends (state w) e)
    end_stands = after_stands w (event (ending e)) full (passes w (ending e) (passed w (ending e) ok))

    end_left : (call w (ending e)).after ≡ stored w (ends (state w) e) (encode (record_of (event (ending e)) false))
    end_left = left_carried w (ending e) ok ∙ same e
      where
        same : (e : End) → carried w (event (ending e)) ≡ stored w (ends (state w) e) (encode (record_of (event (ending e)) false))
        same (keeps job) = refl
        same (cancels job) = refl

    end_state : state (call w (ending e)).after ≡ ends (state w) e
    end_state = ap state (left_carried w (ending e) ok) ∙ carried_state w (event (ending e)) full (passes w (ending e) (passed w (ending e) ok))

    end_keeps : Keeps w (call w (ending e)).after
    end_keeps = accepted_keeps w (ending e) full ok

-- all of them
pub record Left (w : World) (es : List End) : Type 0 where
  pub done_so : AllDone w es
  pub left_so : after w es ≡ stored w (all_ended (state w) es) (end_records es)
  pub keeps_so : Keeps w (after w es)

pub all_left : (es : List End) (w : World) → length w.session.marks ≡ 64 → sound_B w ≡ true → Group (state w) es → Left w es
all_left [] w full sound g =
    record {
      done_so = tt;
      left_so = sym (written_back w (sound_is w sound).tables);
      keeps_so = record { still_sound = sound; same_rule = refl; all_marks = full; same_tiles = refl; same_operations = refl; same_journal = refl };
    }
all_left (e ∷ es) w full sound g =
    let k = end_keeps w full sound e g.0 in
    let p = end_left w full sound e g.0 in
    let q = end_state w full sound e g.0 in
    let ih = all_left es (call w (ending e)).after k.all_marks k.still_sound (subst (λ s. Group s es) (sym q) (group_on (state w) e es g.1 g.2)) in
    record {
      done_so = (end_done w full sound e g.0, ih.done_so);
      left_so = ih.left_so
          ∙ (λ i. stored (p i) (all_ended (q i) es) (end_records es))
          ∙ stored_twice w (ends (state w) e) (encode (record_of (event (ending e)) false)) (all_ended (ends (state w) e) es) (end_records es) (end_stands w full sound e g.0);
      keeps_so = record {
        still_sound = ih.keeps_so.still_sound;
        same_rule = ih.keeps_so.same_rule ∙ k.same_rule;
        all_marks = ih.keeps_so.all_marks;
        same_tiles = ih.keeps_so.same_tiles ∙ k.same_tiles;
        same_operations = ih.keeps_so.same_operations ∙ k.same_operations;
        same_journal = ih.keeps_so.same_journal ∙ k.same_journal;
      };
    }

-- the journal
four_each : (es : List End) → length (end_records es) ≡ 4 * length es
unfolding encode
four_each [] = refl
four_each (e ∷ es) = length-append (encode (record_of (event (ending e)) false)) (end_records es) ∙ go e (four_each es)
  where
    go : (e : End) → length (end_records es) ≡ 4 * length es → length (encode (record_of (event (ending e)) false)) + length (end_records es) ≡ 4 * suc (length es)
    go (keeps job) ih = omega arith
    go (cancels job) ih = omega arith

pub same_number : {es fs : List End} → Reordered es fs → length es ≡ length fs
same_number nothing = refl
same_number (first e r) = ap suc (same_number r)
same_number (swapped e f es) = refl
same_number (then r q) = same_number r ∙ same_number q

pub same_bytes : {es fs : List End} → Reordered es fs → length (end_records es) ≡ length (end_records fs)
same_bytes {es} {fs} r = four_each es ∙ ap (λ n. 4 * n) (same_number r) ∙ sym (four_each fs)

pub journal_left : (w : World) (es : List End) → Left w es → (after w es).journal ≡ used_journal w ++ end_records es ++ behind w (length es)
journal_left w es l =
    let i = w.session.journal in
    let f = (sound_is (after w es) l.keeps_so.still_sound).journal_fits in
    let g : (after w es).session.journal ≡ i + length (end_records es) = ap (λ (v : World). v.session.journal) l.left_so in
    let h = l.keeps_so.same_journal in
    ap (λ (v : World). v.journal) l.left_so
    ∙ sets-eq (end_records es) w.journal i (omega arith)
    ∙ ap (λ n. take i w.journal ++ end_records es ++ drop (i + n) w.journal) (four_each es)
