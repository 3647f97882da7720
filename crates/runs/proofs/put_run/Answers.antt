-- What is left to merge in front of `place`, with what stands behind it, is the same at each turn
use Rattle.std.specs.Prelude.{◌≡◌, ◌-◌, ◌<◌, ◌≤◌, List, get_or, length, take, ℕ}
use Rattle.std.proofs.Common.{◌∙◌, ap, arith, get_or-take, length-set, length-take-le}
use Rattle.std.proofs.lemmas.List.{nil_from_length}
use Rattle.strict.specs.Operations.{put}
use Rattle.search.specs.Laws.{used_length}
use Rattle.runs.proofs.Merging.{all_longer, both_go, ends, key_goes, no_tile_left, padded_goal, place_there, tile_goes}
use Rattle.runs.specs.Runs.{apply_all}
use Rattle.runs.proofs.put_run.Goals.{in_default-last-via-in-Some-2+else-key-tile-2, in_default-last-via-in_default-last}
use Rattle.runs.proofs.put_run.Goals as goal

-- the last of the tiles that are left
last_tile : (l : List ℕ) (old x : ℕ) → old ≤ length l → 0 < length (take old l) → ((d : ℕ) → x ≡ get_or (take old l) (length (take old l) - 1) d)
    → (0 < old) × (x ≡ get_or l (old - 1) 0)
last_tile l old x fits some is =
    let n = length-take-le old l fits in
    (omega arith, is 0 ∙ ap (λ m. get_or (take old l) (m - 1) 0) n ∙ get_or-take old l (old - 1) 0 (omega arith))

pub overflow_sub-place : goal.overflow_sub-place
overflow_sub-place c = place_there c.loop-key.invariant.0 _ _ c.in-Some.ensures.cases.0

pub loop-key-preserved-then-key-tile : goal.loop-key-preserved-then-key-tile
loop-key-preserved-then-key-tile c =
    let m = c.loop-key.invariant.0 in
    let item = c.in-Some-last.ensures.item in
    let tile = last_tile _ _ _ m.old_fits item.3.0 item.3.1 in
    (tile_goes m _ _ c.in-Some.ensures.cases.0 _ tile.0 tile.1 (omega arith), simp length-set c.loop-key.invariant.1)

pub loop-key-preserved-then-key-tile-2 : goal.loop-key-preserved-then-key-tile-2
loop-key-preserved-then-key-tile-2 c =
    let m = c.loop-key.invariant.0 in
    let item = c.in-Some-last.ensures.item in
    let tile = last_tile _ _ _ m.old_fits item.3.0 item.3.1 in
    (both_go m _ _ c.in-Some.ensures.cases.0 _ tile.0 tile.1 (omega arith), simp length-set c.loop-key.invariant.1)

pub bounds-tiles-place-in_default-last : goal.bounds-tiles-place-in_default-last
bounds-tiles-place-in_default-last c =
    let fits = c.loop-key.invariant.0.place_fits in
    let some = place_there c.loop-key.invariant.0 _ _ c.in-Some.ensures.cases.0 in
    omega arith

pub loop-key-preserved : goal.loop-key-preserved
loop-key-preserved c =
    let m = c.loop-key.invariant.0 in
    elim c.in_default-last.branch [
      | in_default-last-via-in-Some-2+else-key-tile-2 w ↦
          let item = w.in-Some-last.ensures.item in
          let tile = last_tile _ _ _ m.old_fits item.3.0 item.3.1 in
          (key_goes m _ _ c.in-Some.ensures.cases.0 _ tile.0 tile.1 (omega arith), simp length-set c.loop-key.invariant.1)
      | in_default-last-via-in_default-last w ↦
          let n = length-take-le _ _ m.old_fits in
          (no_tile_left m _ _ c.in-Some.ensures.cases.0 (omega (arith, w.in_default-last.ensures.item.3)), simp length-set c.loop-key.invariant.1)
    ]

pub returns : goal.returns
returns c =
    let t = c.requires.0 in
    let more = all_longer c.args.keys.now (take c.args.count c.args.tiles.now) in
    let used = used_length t in
    ends c.loop-key.invariant.0 (nil_from_length _ c.in_default.ensures.cases)
    ∙ padded_goal (apply_all put c.args.keys.now (take c.args.count c.args.tiles.now)) t c.requires.2 (omega arith) c.requires.3
