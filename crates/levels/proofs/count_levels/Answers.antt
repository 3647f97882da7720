-- The tiles of a level stand between the places of two numbers
use Rattle.std.specs.Prelude.{◌+◌, ◌*◌, ◌≡◌}
use Rattle.std.proofs.Common.{◌∙◌, ap, arith, length-set, sym}
use Rattle.grid.specs.Levels.{levels_of, tiles_at}
use Rattle.grid.specs.Limits.{zoom_factor}
use Rattle.search.specs.Table.{position_of}
use Rattle.levels.proofs.Places.{between, counts_written, in_places, none_lower}
use Rattle.levels.proofs.count_levels.Goals as goal

pub loop-i-init : goal.loop-i-init
loop-i-init c = (omega arith, sym (none_lower c.args.keys.now c.requires.1), λ j l. absurd (omega arith))

-- what is between the two places
level : (c : goal.After-position-end) → tiles_at (4 + c.loop-i.i) c.args.keys.now + c.loop-i.below ≡ c.position-end.result
level c =
    let t = c.args.keys.now in
    let next : 4 + c.loop-i.i + 1 ≡ c.loop-i.i + 5 = omega arith in
    ap (λ n. tiles_at (4 + c.loop-i.i) t + n) c.loop-i.invariant.1 ∙ between (4 + c.loop-i.i) t c.requires.0
    ∙ ap (λ n. position_of (n * zoom_factor) t) next ∙ sym c.position-end.ensures

pub overflow_sub-level : goal.overflow_sub-level
overflow_sub-level c = let e = level c in omega arith

pub loop-i-preserved : goal.loop-i-preserved
loop-i-preserved c =
    let t = c.args.keys.now in
    let next : c.loop-i.i + 5 ≡ 4 + (c.loop-i.i + 1) = omega arith in
    let here = level c in (
      length-set c.loop-i.level-items _ _ ∙ c.loop-i.invariant.0,
      c.position-end.ensures ∙ ap (λ n. position_of (n * zoom_factor) t) next,
      counts_written t c.loop-i.level-items c.loop-i.i _ (omega arith) (omega arith) c.loop-i.invariant.2,
    )

pub returns : goal.returns
unfolding levels_of
returns c =
    let all : c.loop-i.i ≡ 11 = omega arith in
    in_places 4 11 c.args.keys.now c.loop-i.level-items c.loop-i.invariant.0 (λ j h. c.loop-i.invariant.2 j (omega arith))
