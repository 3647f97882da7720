-- `shapes::shape_of` meets its contract: both corners have a key, so what is measured is the rectangle
use Rattle.std.specs.Prelude.{Ok}
use Rattle.std.proofs.Common.{rules, ◌∙◌, ◌≡◌, ◌-◌, subst, suc}
use Rattle.grid.specs.Tile.{row_in}
use Rattle.rectangles.specs.Rectangles.{first_corner, height, last_corner, width}
use Rattle.shapes.specs.Laws.Shaping.{rows_height, shapes_measured, zoom_small}
use Rattle.shapes.specs.Shaping.{Corners, Measures}
use Rattle.shapes.proofs.shape_of.Goals as goal

pub measured-requires : goal.measured-requires
measured-requires c =
    let first = first_corner c.args.r in
    let a : Corners first (Ok c.in_ok-corner.corner) = search rules in
    zoom_small first a.1

pub returns : goal.returns
returns c =
    let r = c.args.r in
    let a : Corners (first_corner r) (Ok c.in_ok-corner.corner) = search rules in
    let b : Corners (last_corner r) (Ok c.in_ok-last.last) = search rules in
    let w : c.span.result ≡ width r = search rules in
    let h : c.rows_between.result ≡ height r = c.rows_between.ensures ∙ (λ i. suc (row_in (b.2 i)) - row_in (a.2 i)) ∙ rows_height r a.1 b.1 in
    shapes_measured r c.in_ok-corner.corner c.measured.result a.0 a.1 b.1 a.2
    (subst (λ x. Measures r.zoom c.in_ok-corner.corner (width r) x c.measured.result) h
    (subst (λ x. Measures r.zoom c.in_ok-corner.corner x c.rows_between.result c.measured.result) w c.measured.ensures))
