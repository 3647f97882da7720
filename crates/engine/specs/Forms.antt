-- What an operation or an open leaves in the tables of a sound world, in the numbers that the code moves
use Rattle.std.specs.Prelude.{Bool, ◌&&◌, cond, false, not, true, List, [], ◌++◌, ◌∷◌, map, ◌≡◌, refl, ◌+◌, ◌-◌, ◌<◌, ◌≤◌, ℕ, eqb, length, set}
use Rattle.std.proofs.Common.{◌∙◌, ap, subst, sym, arith, length-append, eq-eqb, eqb-true, ne_eqb}
use Rattle.std.proofs.lemmas.Bool.{eqb-false}
use Rattle.lists.specs.Lists.{padded}
use Rattle.lists.specs.Truth.{never, one_if}
use Rattle.strict.specs.Book.{spoken_by}
use Rattle.strict.specs.Histories.{Event, open_job, operation}
use Rattle.strict.proofs.Laws.Released.{spoken_either, spoken_operation}
use Rattle.strict.specs.Operations.{Op, apply, begun, effect, kind, of_sheet}
use Rattle.strict.specs.Sound.{SoundTable}
use Rattle.strict.specs.Tiles.{member}
use Rattle.strict.specs.declared.Procedure.{Procedure}
use Rattle.strict.specs.declared.Rule.TheVariants.{Together}
use Rattle.strict.specs.declared.Rule.{Rule}
use Rattle.grid.specs.Tile.{is_key}
use Rattle.service.specs.Admission.{perform}
use Rattle.service.specs.Calls.{session_of, with_state}
use Rattle.service.specs.Entry.{entry_of, op_in, pack_entry}
use Rattle.service.proofs.Laws.Entries.{entries_back, settled_sound}
use Rattle.service.proofs.Laws.Standing.{Stands, stands_perform}
use Rattle.service.proofs.Laws.Storing.{tabled_stands}
use Rattle.service.specs.Sound.{Tabled}
use Rattle.service.specs.World.{World, state, used_operations, used_tiles, world}
use Rattle.service.specs.declared.Session.{Session}
use Rattle.rebuilding.specs.Replay.{ruled}
use Rattle.levels.specs.Laws.{movable, tally_kept}
use Rattle.levels.specs.Tally.{Movable, tally_after, tally_of}
use Rattle.levels.specs.declared.Tally.{Tally}
use Rattle.entries.specs.Laws.{padded_more}
use Rattle.rules.specs.Laws.{other_kind, place_wanted}
use Rattle.admission.specs.Laws.{entry_table, operations_count, tile_table, tiles_count}
use Rattle.engine.specs.Counting.{Enters, entered, spoken_after, tally_in, wants}
use Rattle.engine.specs.Events.{Ready, governed, marked_open}

entries_more : (us : List Op) (u : Op) → map entry_of (us ++ (u ∷ [])) ≡ map entry_of us ++ (entry_of u ∷ [])
entries_more [] u = refl
entries_more (x ∷ us) u = ap {B = List ℕ} (λ l. entry_of x ∷ l) (entries_more us u)

-- what a session counts of the tiles is what a fresh count gives
pub tally_there : (w : World) → Tabled w → tally_of (used_tiles w) ≡ tally_in w.session
tally_there w o i = record { tiles = tiles_count w o i; levels = sym o.levels_counted i }

-- THE FORMS
module _ (w : World) (o : Tabled w) where
  pub same_tiles : padded (length w.tiles) (used_tiles w) ≡ w.tiles
  same_tiles = sym (tile_table w o).zeros_behind

  same_operations : padded (length w.operations) (map entry_of (map op_in (used_operations w))) ≡ w.operations
  same_operations = ap (padded (length w.operations)) (entries_back w.session.marks (used_operations w) o.entries) ∙ sym (entry_table w o).zeros_behind

  -- the table as the book has it, and what it speaks for
  pub sound_book : SoundTable w.session.rule (used_tiles w) (map op_in (used_operations w))
  sound_book = settled_sound w.session.rule w.session.marks (used_tiles w) (used_operations w) o.entries o.settled

  -- the session, with other marks or another rule that speaks for as much
  same_session : (rule : Rule) (marks : List Bool) → spoken_by rule (used_tiles w) (map op_in (used_operations w)) ≡ w.session.spoken
      → session_of (record { rule = rule; marks = marks; book = (state w).book }) w.session.journal
      ≡ record {
        rule = rule;
        marks = marks;
        tiles = w.session.tiles;
        operations = w.session.operations;
        journal = w.session.journal;
        levels = w.session.levels;
        spoken = w.session.spoken;
      }
  same_session rule marks s i =
      record {
        rule = rule;
        marks = marks;
        tiles = tiles_count w o i;
        operations = operations_count w o i;
        journal = w.session.journal;
        levels = sym o.levels_counted i;
        spoken = s i;
      }

  open_form : (job : ℕ) → with_state w (perform (state w) (open_job job)) ≡ world (marked_open w.session job) w.tiles w.operations w.journal
  open_form job i = world (same_session w.session.rule (set w.session.marks job true) (sym o.spoken_counted) i) (same_tiles i) (same_operations i) w.journal

  pub rule_form : with_state w (ruled (state w)) ≡ world (governed w.session) w.tiles w.operations w.journal
  rule_form i =
      let s = spoken_either w.session.rule (used_tiles w) (map op_in (used_operations w)) sound_book ∙ sym o.spoken_counted in
      world (same_session Together w.session.marks s i) (same_tiles i) (same_operations i) w.journal

  module _ (job sheet : ℕ) (p : Procedure) (key : ℕ) where
    abbrev new : ℕ
    new = pack_entry sheet (kind p (member key (used_tiles w))) job key

    abbrev affected : List ℕ
    affected = apply (effect p) key (used_tiles w)

    abbrev more : List Op
    more = map op_in (used_operations w) ++ (of_sheet sheet (begun job p key (used_tiles w)) ∷ [])

    more_operations : map entry_of more ≡ used_operations w ++ (new ∷ [])
    more_operations =
        entries_more (map op_in (used_operations w)) (of_sheet sheet (begun job p key (used_tiles w)))
        ∙ ap (λ l. l ++ (new ∷ [])) (entries_back w.session.marks (used_operations w) o.entries)

    more_count : length more ≡ w.session.operations + 1
    more_count = length-append (map op_in (used_operations w)) (of_sheet sheet (begun job p key (used_tiles w)) ∷ []) ∙ ap (λ n. n + 1) (operations_count w o)

    -- what is spoken for behind it
    abbrev new_kind : ℕ
    new_kind = kind p (member key (used_tiles w))

    spoken_moves : spoken_by w.session.rule affected more + one_if (eqb new_kind 1) ≡ w.session.spoken + one_if (wants w.session w.operations new_kind key) + one_if (eqb new_kind 3)
    spoken_moves =
        let a = spoken_operation w.session.rule (state w).book job sheet p key o.ascending in
        let b = ap one_if (place_wanted job p key (used_tiles w) w.session.rule (map op_in (used_operations w))) in
        let c = o.spoken_counted in
        omega arith

    pub spoken_some : new_kind ≡ 1 → wants w.session w.operations new_kind key ≡ false → 0 < w.session.spoken
    spoken_some is_one none = let h = rw (none, eq-eqb new_kind 1 is_one, ne_eqb new_kind 3 (λ e. absurd (omega arith))) at spoken_moves in omega arith

    spoken_more : spoken_after new_kind (wants w.session w.operations new_kind key) w.session.spoken ≡ spoken_by w.session.rule affected more
    spoken_more = go (eqb new_kind 3) refl (eqb new_kind 1) refl (wants w.session w.operations new_kind key) refl spoken_moves
      where
        go : (a : Bool) → eqb new_kind 3 ≡ a → (b : Bool) → eqb new_kind 1 ≡ b → (c : Bool) → wants w.session w.operations new_kind key ≡ c
            → spoken_by w.session.rule affected more + one_if b ≡ w.session.spoken + one_if c + one_if a
            → cond a (w.session.spoken + 1) (cond (b && not c) (w.session.spoken - 1) w.session.spoken) ≡ spoken_by w.session.rule affected more
        go true x true y c z h = absurd (let e = eqb-true new_kind 3 x in let f = eqb-true new_kind 1 y in omega arith)
        go true x false y true z h = never (sym z ∙ sym (other_kind w.session.rule (map op_in (used_operations w)) new_kind key (eqb-false new_kind 1 y)))
        go true x false y false z h = omega arith
        go false x true y true z h = omega arith
        go false x true y false z h = omega arith
        go false x false y true z h = never (sym z ∙ sym (other_kind w.session.rule (map op_in (used_operations w)) new_kind key (eqb-false new_kind 1 y)))
        go false x false y false z h = omega arith

    -- the session behind it, where the key is valid
    module _ (valid : is_key key ≡ true) where
      pub tally_may : Movable (tally_in w.session) key (member key (used_tiles w))
      tally_may =
          subst (λ c. Movable c key (member key (used_tiles w))) (tally_there w o)
          (movable key valid (used_tiles w) o.ascending (let a = tiles_count w o in let b = o.tiles_fit in let c = o.few_tiles in omega arith))

      pub entered_is : entered w.session w.operations p key (member key (used_tiles w)) ≡ session_of (perform (state w) (operation job sheet p key)) w.session.journal
      entered_is i =
          let c : Tally = (ap (λ c. tally_after c p key (member key (used_tiles w))) (sym (tally_there w o)) ∙ tally_kept key valid (used_tiles w) o.ascending p) i in
          record {
            rule = w.session.rule;
            marks = w.session.marks;
            tiles = c.tiles;
            operations = sym more_count i;
            journal = w.session.journal;
            levels = c.levels;
            spoken = spoken_more i;
          }

    pub operation_form : (s : Session) → s ≡ session_of (perform (state w) (operation job sheet p key)) w.session.journal
        → world s (padded (length w.tiles) affected) (padded (length w.operations) (used_operations w ++ (new ∷ []))) w.journal ≡ with_state w (perform (state w) (operation job sheet p key))
    operation_form s is i = world (is i) (padded (length w.tiles) affected) (padded (length w.operations) (sym more_operations i)) w.journal

-- WHAT THE CODE LEAVES
module _ (w : World) (few : length w.session.marks ≡ 64) where
  -- the tables that a ready event leaves have their places
  stands_after : (e : Event) → Ready w e → Stands (length w.tiles) (length w.operations) (perform (state w) e)
  stands_after e r = stands_perform (length w.tiles) (length w.operations) (state w) (tabled_stands w few r.tabled) e r.named r.unrefused_by

  module _ (job sheet : ℕ) (p : Procedure) (key : ℕ) (r : Ready w (operation job sheet p key)) where
    pub affected_fits : length (apply (effect p) key (used_tiles w)) ≤ length w.tiles
    affected_fits = let room = (stands_after (operation job sheet p key) r).room in omega arith

    pub slot_free : w.session.operations < length w.operations
    slot_free = let fits = (stands_after (operation job sheet p key) r).fits in omega (arith, more_count w r.tabled job sheet p key)

    pub may_enter : Enters w.session w.operations p key (member key (used_tiles w))
    may_enter =
        let o = r.tabled in
        record {
          slot = slot_free;
          few_slots_lem = o.few_operations;
          movable = tally_may w o job sheet p key r.named.1;
          speaks = record {
            few = let a = o.room in let b = o.few_tiles in let c = o.spoken_counted in omega arith;
            some = spoken_some w o job sheet p key;
          };
        }

    pub performed : (s : Session) (tiles operations : List ℕ)
        → s ≡ entered w.session w.operations p key (member key (used_tiles w))
        → tiles ≡ padded (length w.tiles) (apply (effect p) key (used_tiles w))
        → operations ≡ set w.operations w.session.operations (pack_entry sheet (kind p (member key (used_tiles w))) job key)
        → world s tiles operations w.journal ≡ with_state w (perform (state w) (operation job sheet p key))
    performed s tiles operations a b c =
        let new = pack_entry sheet (kind p (member key (used_tiles w))) job key in
        let more = c ∙ padded_more w.operations w.session.operations new slot_free (entry_table w r.tabled) in
        (λ i. world s (b i) (more i) w.journal) ∙ operation_form w r.tabled job sheet p key s (a ∙ entered_is w r.tabled job sheet p key r.named.1)

-- what an open leaves
pub after_open : (w : World) → Tabled w → (job : ℕ) (s : Session)
    → s ≡ marked_open w.session job → world s w.tiles w.operations w.journal ≡ with_state w (perform (state w) (open_job job))
after_open w o job s is = ap (λ (x : Session). world x w.tiles w.operations w.journal) is ∙ sym (open_form w o job)
