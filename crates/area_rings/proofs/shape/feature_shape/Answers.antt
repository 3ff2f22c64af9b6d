use Rattle.std.proofs.Common.{sym, ◌∙◌, ap, arith}
use Rattle.std.specs.Option.{option_map}
use Rattle.area_rings.specs.declared.shape.Shape.TheVariants.{Points, Lines, Rings}
use Rattle.area_rings.specs.Shape.{points_of, lines_of}
use Rattle.area_rings.proofs.Shapes.{mapped, point_shape_is, line_shape_is, area_shape_is, bare_shape_is, no_shape}
use Rattle.area_rings.proofs.shape.feature_shape.Goals as goal

pub returns-in_ok-points-in-1 : goal.returns-in_ok-points-in-1
returns-in_ok-points-in-1 c =
    mapped Points _ _ c.map.ensures.cases
    ∙ ap (option_map Points) (c.in_ok-points-in-1.ensures ∙ ap (points_of c.args.cell.now) c.as_slice-pointers.ensures)
    ∙ sym (point_shape_is c.args.cell.now c.args.feature.now c.in-1.is)

pub returns-in_ok-lines-in-2 : goal.returns-in_ok-lines-in-2
returns-in_ok-lines-in-2 c =
    mapped Lines _ _ c.map-in-2.ensures.cases
    ∙ ap (option_map Lines) (c.in_ok-lines-in-2.ensures ∙ ap (lines_of c.args.cell.now) c.as_slice-pointers.ensures)
    ∙ sym (line_shape_is c.args.cell.now c.args.feature.now c.in-2.is)

pub returns-in_ok-rings-in-3 : goal.returns-in_ok-rings-in-3
returns-in_ok-rings-in-3 c =
    mapped Rings _ _ c.map-in-3.ensures.cases
    ∙ ap (option_map Rings) c.in_ok-rings-in-3.ensures
    ∙ sym (area_shape_is c.args.cell.now c.args.feature.now c.in-3.is)

pub returns-in-255 : goal.returns-in-255
returns-in-255 c = sym (bare_shape_is c.args.cell.now c.args.feature.now c.in-255.is)

pub returns-in_default : goal.returns-in_default
returns-in_default c =
    sym (no_shape c.args.cell.now c.args.feature.now (record { no_point = omega arith; no_line = omega arith; no_area = omega arith }) (omega arith))
