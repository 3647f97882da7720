-- THE COUNTS OF A SESSION, which a start makes and every call keeps: what a fresh count gives
use Rattle.std.specs.Prelude.{cond, true, [], map, ◌≡◌, refl, ◌+◌, ◌-◌, ℕ, get_or}
use Rattle.std.proofs.Common.{◌∙◌, ap, ap₂, sym, length-take-le}
use Rattle.strict.specs.Book.{places_taken, spoken_by}
use Rattle.grid.proofs.Laws.Counting.{count_fresh, levels_total}
use Rattle.grid.specs.Levels.{is_zoom, tiles_at, total}
use Rattle.grid.specs.Limits.{lowest_zoom}
use Rattle.service.specs.Calls.{empty_session}
use Rattle.service.specs.Entry.{op_in}
use Rattle.service.proofs.Laws.Soundness.{sound_is}
use Rattle.service.specs.World.{count_at}
use Rattle.service.specs.Sound.{Tabled, sound_B}
use Rattle.service.specs.World.{World, state, used_operations, used_tiles}

module _ (w : World) (sound : sound_B w ≡ true) where
  tables : Tabled w
  tables = (sound_is w sound).tables

  -- what a sound session says of a zoom, of whichever number, is how many of its tiles have it
  pub levels_fresh : (zoom : ℕ) → count_at w.session zoom ≡ tiles_at zoom (used_tiles w)
  levels_fresh zoom = ap (λ ls. cond (is_zoom zoom) (get_or ls (zoom - lowest_zoom) 0) 0) tables.levels_counted ∙ count_fresh zoom (used_tiles w) tables.keys

  -- and its levels add up to its tiles
  pub levels_sum : total w.session.levels ≡ w.session.tiles
  levels_sum = ap total tables.levels_counted ∙ levels_total (used_tiles w) tables.keys ∙ length-take-le w.session.tiles w.tiles tables.tiles_fit

  -- it holds how many places its unfinished deletes speak for, by its rule
  pub spoken_fresh : w.session.spoken ≡ spoken_by w.session.rule (used_tiles w) (map op_in (used_operations w))
  spoken_fresh = tables.spoken_counted

  -- so that the places that are taken, by which 7 is judged, are to hand
  pub taken_kept : w.session.tiles + w.session.spoken ≡ places_taken w.session.rule (state w).book
  taken_kept = ap₂ (λ m n. m + n) (sym (length-take-le w.session.tiles w.tiles tables.tiles_fit)) spoken_fresh

-- a refused start, which leaves the empty session, counts nothing
pub empty_counts : ((zoom : ℕ) → count_at empty_session zoom ≡ 0) × (empty_session.spoken ≡ 0)
empty_counts = (λ zoom. count_fresh zoom [] tt, refl)
