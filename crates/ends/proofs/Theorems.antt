-- ITEM 12: the order in which a group of open jobs ends makes no difference
use Rattle.std.specs.Prelude.{true, List, [], ◌++◌, ◌∷◌, ◌≢◌, ◌≡◌, refl, ◌+◌, ℕ, length}
use Rattle.std.proofs.Common.{◌∙◌, ap, sym, arith}
use Rattle.lists.specs.Truth.{never}
use Rattle.strict.specs.Book.{Book}
use Rattle.strict.specs.Operations.{begun}
use Rattle.strict.specs.Sound.{SoundEntry}
use Rattle.strict.specs.Strict.{Log}
use Rattle.strict.specs.Tiles.{Ascending}
use Rattle.strict.specs.declared.Procedure.TheVariants.{Del, Ins, Mem}
use Rattle.strict.specs.declared.Rule.TheVariants.{Alone}
use Rattle.strict.specs.declared.Rule.{Rule}
use Rattle.service.specs.Calls.{session_of, stored}
use Rattle.service.proofs.Demands.{all_marks, reached}
use Rattle.service.specs.History.{Call, From}
use Rattle.service.proofs.Laws.Soundness.{sound_is}
use Rattle.service.proofs.Laws.Storing.{tabled_stands}
use Rattle.service.specs.Limits.{job_count}
use Rattle.service.specs.Sound.{sound_B}
use Rattle.service.specs.World.{World, state, used_journal}
use Rattle.rectangles.specs.Claims.{FromMoves, Move}
use Rattle.rectangles.proofs.Theorems.{written_out}
use Rattle.ends.specs.Ends.{EitherFirst, End, Group, Reordered, SameEnd, behind, cancels, careful, end_records, ended_by, greedy, keeps, wary, whose}
use Rattle.ends.proofs.Laws.Orders.{either_first}
use Rattle.ends.proofs.Laws.Worlds.{all_left, group_same, journal_left, same_bytes, same_number, states_same}

-- From every sound world with its 64 marks, however it came about and by either rule. What is needed: that the jobs differ and are open (edits of `Group`);
-- soundness, for an end of a world that is not sound is refused by 1, and two aborts may then leave different tiles (`needs_soundness`); and the 64
-- marks, that every session has. No history is.
pub ends_in_any_order : (w : World) (es fs : List End) → length w.session.marks ≡ job_count → sound_B w ≡ true → Group (state w) es → Reordered es fs
    → SameEnd w es fs
ends_in_any_order w es fs full sound g r =
    let a = all_left es w full sound g in
    let b = all_left fs w full sound (group_same (state w) r g) in
    let s = states_same (length w.tiles) (length w.operations) (state w) r (tabled_stands w full (sound_is w sound).tables) g in
    let n = same_bytes r in
    record {
      es_done = a.done_so;
      fs_done = b.done_so;
      same_tiles = ap (λ (v : World). v.tiles) a.left_so ∙ ap (λ x. (stored w x (end_records es)).tiles) s ∙ ap (λ (v : World). v.tiles) (sym b.left_so);
      same_operations = ap (λ (v : World). v.operations) a.left_so ∙ ap (λ x. (stored w x (end_records es)).operations) s ∙ ap (λ (v : World). v.operations) (sym b.left_so);
      same_session = ap (λ (v : World). v.session) a.left_so ∙ (λ i. session_of (s i) (w.session.journal + n i)) ∙ ap (λ (v : World). v.session) (sym b.left_so);
      es_written = journal_left w es a;
      fs_written = journal_left w fs b ∙ ap (λ n. used_journal w ++ end_records fs ++ behind w n) (sym (same_number r));
    }

-- and so from every world that accepted calls reach from a start
pub reached_ends_in_any_order : {rule : Rule} {tiles : List ℕ} {count : ℕ} {operations journal : List ℕ} {cs : Log Call} {w : World} → From rule tiles count operations journal cs w
    → (es fs : List End) → Group (state w) es → Reordered es fs → SameEnd w es fs
reached_ends_in_any_order {w = w} from es fs g r = ends_in_any_order w es fs (all_marks from) (reached from).sound g r

-- rectangles among the calls change nothing of that
pub moves_end_in_any_order : {rule : Rule} {tiles : List ℕ} {count : ℕ} {operations journal : List ℕ} {ms : Log Move} {w : World}
    → FromMoves rule tiles count operations journal ms w → (es fs : List End) → Group (state w) es → Reordered es fs → SameEnd w es fs
moves_end_in_any_order from = reached_ends_in_any_order (written_out from)

-- WHERE THE ORDER MATTERS: on a sound table not with the service's abort
pub careful_either_first : EitherFirst careful
careful_either_first = either_first

-- with two others it does. Job 1 put tile 5 and job 2 tile 6; job 2 commits after job 1 aborts, or before
pub greedy_order_matters : EitherFirst greedy → ⊥
greedy_order_matters any =
    let u = begun 1 Ins 5 [] in
    let v = begun 2 Ins 6 [] in
    let after_u : SoundEntry Alone (5 ∷ 6 ∷ []) u (v ∷ []) = record { unfinished_entry = refl; as_left_lem = λ c. refl; own_tile = λ c. (λ p. omega arith, tt) } in
    let last : SoundEntry Alone (5 ∷ 6 ∷ []) v [] = record { unfinished_entry = refl; as_left_lem = λ c. refl; own_tile = λ c. tt } in
    let same = any Alone (record { tiles = 5 ∷ 6 ∷ []; table = u ∷ v ∷ [] }) (omega arith, tt) (after_u, (last, tt)) (cancels 1) (keeps 2) (λ p. omega arith) in
    let lengths : ◌≡◌ {A = ℕ} 0 1 = ap (λ (m : Book). length m.tiles) same in
    omega arith

-- job 1 asked for tile 5, and then job 2 put it; both abort
pub wary_order_matters : EitherFirst wary → ⊥
wary_order_matters any =
    let u = begun 1 Mem 5 [] in
    let v = begun 2 Ins 5 [] in
    let after_u : SoundEntry Alone (5 ∷ []) u (v ∷ []) = record { unfinished_entry = refl; as_left_lem = λ c. never (sym c); own_tile = λ c. never (sym c) } in
    let last : SoundEntry Alone (5 ∷ []) v [] = record { unfinished_entry = refl; as_left_lem = λ c. refl; own_tile = λ c. tt } in
    let same = any Alone (record { tiles = 5 ∷ []; table = u ∷ v ∷ [] }) tt (after_u, (last, tt)) (cancels 1) (cancels 2) (λ p. omega arith) in
    let lengths : ◌≡◌ {A = ℕ} 0 1 = ap (λ (m : Book). length m.tiles) same in
    omega arith

-- and with the service's where the table is not sound: job 1 put tile 5, and then job 2 took it away; both abort
pub needs_soundness : ((m : Book) → Ascending m.tiles → (e f : End) → whose e ≢ whose f
    → ended_by careful (ended_by careful m e) f ≡ ended_by careful (ended_by careful m f) e) → ⊥
needs_soundness any =
    let same = any (record { tiles = []; table = begun 1 Ins 5 [] ∷ begun 2 Del 5 (5 ∷ []) ∷ [] }) tt (cancels 1) (cancels 2) (λ p. omega arith) in
    let lengths : ◌≡◌ {A = ℕ} 1 0 = ap (λ (m : Book). length m.tiles) same in
    omega arith
