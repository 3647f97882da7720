-- `shapes::list_tiles` meets its contract: by steps from the corner
use Rattle.std.proofs.Common.{◌∙◌, ◌≡◌, ◌++◌, ap, ap₂, arith, drop, length, length-take-le, subst, sym, take}
use Rattle.std.proofs.Math.Seq.{take-append_seam}
use Rattle.grid.specs.Tile.{column_in, row_in}
use Rattle.rectangles.specs.Rectangles.{sequence}
use Rattle.shapes.specs.Laws.Listed.{shape_few, shape_list, shape_steps}
use Rattle.shapes.specs.Shaping.{Steps, stepped}
use Rattle.shapes.proofs.list_tiles.Goals as goal

pub columns_of-requires : goal.columns_of-requires
columns_of-requires c = (shape_steps c.args.r c.args.shape c.requires.0).low_zoom

pub list_keys-requires : goal.list_keys-requires
list_keys-requires c =
    let a = c.args in
    let s = a.shape in (
      subst (λ x. Steps a.r.zoom x (column_in s.corner) (row_in s.corner) s.height) (sym c.columns_of.ensures) (shape_steps a.r s c.requires.0),
      omega (arith, shape_few a.r s c.requires.0, length-take-le s.n a.keys.now c.requires.1),
    )

pub returns : goal.returns
returns c =
    let a = c.args in
    let s = a.shape in
    let list = c.list_keys.new.keys in
    let few = length-take-le s.n a.keys.now c.requires.1 in
    let long : length list ≡ s.n = c.list_keys.auto.keys ∙ few in
    ap (λ n. take n (list ++ drop s.n a.keys.now)) (sym long)
    ∙ take-append_seam list (drop s.n a.keys.now)
    ∙ c.list_keys.ensures
    ∙ ap₂ (λ x n. sequence (stepped a.r.zoom x (column_in s.corner) (row_in s.corner) s.height) 0 n) c.columns_of.ensures few
    ∙ shape_list a.r s c.requires.0
