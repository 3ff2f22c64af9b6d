use Rattle.std.proofs.Common.{sym, ◌∙◌, ap, slice_get, List}
use Rattle.std.specs.Option.{option_copied}
use Rattle.chart_model.specs.declared.record.Coord.{Coord}
use Rattle.area_rings.proofs.Edges.{no_node, no_coordinate, coordinate}
use Rattle.area_rings.proofs.edge.place.Goals as goal

pub returns-in_err-node : goal.returns-in_err-node
returns-in_err-node c =
    rw c.from_residual.ensures (sym (no_node c.args.cell.now c.args.name (sym c.node.ensures ∙ ap option_copied c.in_err-node.was)))

pub returns-in_err-coord : goal.returns-in_err-coord
returns-in_err-coord c =
    let found = sym c.node.ensures ∙ ap option_copied c.in_ok-node.was in
    let first = ap (λ (l : List Coord). slice_get l 0) (sym c.as_slice.ensures) ∙ sym c.in_err-coord.ensures.value in
    rw c.from_residual-in_err-coord.ensures (sym (no_coordinate c.args.cell.now c.args.name _ found first))

pub returns : goal.returns
returns c =
    let found = sym c.node.ensures ∙ ap option_copied c.in_ok-node.was in
    let first = ap (λ (l : List Coord). slice_get l 0) (sym c.as_slice.ensures) ∙ sym c.in_ok-coord.ensures.value in
    rw c.point.ensures (sym (coordinate c.args.cell.now c.args.name _ _ found first))
