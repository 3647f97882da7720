-- Ending a group of open jobs, some kept and some cancelled, with no other call between
use Rattle.std.specs.Prelude.{cond, false, true, List, [], ◌++◌, ◌∷◌, ◌≢◌, ◌≡◌, ◌*◌, ◌+◌, ℕ, drop, length}
use Rattle.lists.specs.Lists.{All}
use Rattle.strict.specs.Book.{Book, others, recover, step}
use Rattle.strict.specs.Histories.{commit, mine}
use Rattle.strict.specs.Operations.{Op, undo}
use Rattle.strict.specs.Sound.{SoundTable}
use Rattle.strict.specs.Tiles.{Ascending, member}
use Rattle.strict.specs.declared.Rule.{Rule}
use Rattle.service.specs.Admission.{State, is_open}
use Rattle.service.specs.History.{Call, aborting, call, committing, event}
use Rattle.service.specs.Journal.{encode, record_of}
use Rattle.service.specs.Told.{bare}
use Rattle.service.specs.World.{World, used_journal}

-- a job is kept, or cancelled
pub data End : Type 0 where
  keeps cancels : ℕ → End

abbrev pub whose : End → ℕ
whose (keeps job) = job
whose (cancels job) = job

-- commit_call or abort_call
abbrev pub ending : End → Call
ending (keeps job) = committing job
ending (cancels job) = aborting job

-- the ends of different jobs, each of them open
abbrev pub Group : State → List End → Type 0
Group s [] = Unit {0}
Group s (e ∷ es) = (is_open s (whose e) ≡ true) × All (λ f. whose e ≢ whose f) es × Group s es

-- the same ends in another order
pub data Reordered : List End → List End → Type 0 where
  nothing : Reordered [] []
  first : (e : End) {es fs : List End} → Reordered es fs → Reordered (e ∷ es) (e ∷ fs)
  swapped : (e f : End) (es : List End) → Reordered (e ∷ f ∷ es) (f ∷ e ∷ es)
  then : {es fs gs : List End} → Reordered es fs → Reordered fs gs → Reordered es gs

-- the calls one after another: the world they leave, and that each is told 0
abbrev pub after : World → List End → World
after w [] = w
after w (e ∷ es) = after (call w (ending e)).after es

abbrev pub AllDone : World → List End → Type 0
AllDone w [] = Unit {0}
AllDone w (e ∷ es) = ((call w (ending e)).told ≡ bare 0) × AllDone (call w (ending e)).after es

-- their records, in order
abbrev pub end_records : List End → List ℕ
end_records [] = []
end_records (e ∷ es) = encode (record_of (event (ending e)) false) ++ end_records es

-- the bytes of the journal behind n end records more
abbrev pub behind : World → ℕ → List ℕ
behind w n = drop (w.session.journal + 4 * n) w.journal

-- the ends es, and the ends fs, of w: all are done, and they differ in the journal's end records alone
pub record SameEnd (w : World) (es fs : List End) : Type 0 where
  pub es_done : AllDone w es
  pub fs_done : AllDone w fs
  pub same_tiles : (after w es).tiles ≡ (after w fs).tiles
  pub same_operations : (after w es).operations ≡ (after w fs).operations
  pub same_session : (after w es).session ≡ (after w fs).session
  pub es_written : (after w es).journal ≡ used_journal w ++ end_records es ++ behind w (length es)
  pub fs_written : (after w fs).journal ≡ used_journal w ++ end_records fs ++ behind w (length es)

-- THE ORDER OF TWO ENDS, as a property of how an abort of a job changes the tiles t, where the table is us
abbrev pub Undoing : Type 0
Undoing = ℕ → List Op → List ℕ → List ℕ

abbrev pub ended_by : Undoing → Book → End → Book
ended_by undoing m (keeps job) = step m (commit job)
ended_by undoing m (cancels job) = record { tiles = undoing job m.table m.tiles; table = others job m.table }

-- on a sound table, the ends of two jobs leave the same in either order
abbrev pub EitherFirst : Undoing → Type 0
EitherFirst undoing =
    (r : Rule) (m : Book) → Ascending m.tiles → SoundTable r m.tiles m.table → (e f : End) → whose e ≢ whose f
    → ended_by undoing (ended_by undoing m e) f ≡ ended_by undoing (ended_by undoing m f) e

-- two aborts of which this is false: one undoes what other jobs did as well
abbrev pub greedy : Undoing
greedy job [] t = t
greedy job (u ∷ us) t = undo u (greedy job us t)

-- and one skips a recovery where another job has an earlier entry on that tile: ks are the tiles of such entries
abbrev pub wary_of : List ℕ → Undoing
wary_of ks job [] t = t
wary_of ks job (u ∷ us) t =
    cond (mine job u)
    (cond (member u.key ks) (wary_of ks job us t) (undo u (wary_of ks job us t)))
    (wary_of (u.key ∷ ks) job us t)

abbrev pub wary : Undoing
wary job us t = wary_of [] job us t

-- and the service's, of which it is true
abbrev pub careful : Undoing
careful job us t = recover job us t
