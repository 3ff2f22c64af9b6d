use Rattle.std.proofs.Common.{sym, ◌∙◌, ap}
use Rattle.std.specs.Option.{option_copied}
use Rattle.std.specs.FinMap as finite
use Rattle.chart_model.specs.Cell.{CellValue}
use Rattle.area_rings.specs.Edge.{ends_of}
use Rattle.area_rings.proofs.Edges.{no_edge_name, no_edge, no_ends, no_begin, no_end, whole_edge}
use Rattle.area_rings.proofs.edge.recorded.Goals as goal

pub returns-then-name-ne-EDGE : goal.returns-then-name-ne-EDGE
returns-then-name-ne-EDGE c = sym (no_edge_name c.args.cell.now c.args.name c.if-name-ne-EDGE.true)

pub returns-in_err-vector : goal.returns-in_err-vector
returns-in_err-vector c =
    let vectors = ap (λ (cell : CellValue). finite.get cell.vectors c.args.name) c.cell.view_is in
    let absent = sym vectors ∙ sym c.get.ensures ∙ ap option_copied c.in_err-vector.was in
    rw c.from_residual.ensures (sym (no_edge c.args.cell.now c.args.name c.if-name-ne-EDGE.false absent))

pub returns-in_err-from : goal.returns-in_err-from
returns-in_err-from c =
    let vectors = ap (λ (cell : CellValue). finite.get cell.vectors c.args.name) c.cell.view_is in
    let found = sym vectors ∙ sym c.get.ensures ∙ ap option_copied c.in_ok-vector.was in
    let ends = ap ends_of (sym c.as_slice.ensures) ∙ sym c.end_names.ensures ∙ c.in_err-from.was in
    rw c.from_residual-in_err-from.ensures (sym (no_ends c.args.cell.now c.args.name _ c.if-name-ne-EDGE.false found ends))

pub returns-in_err-start : goal.returns-in_err-start
returns-in_err-start c =
    let vectors = ap (λ (cell : CellValue). finite.get cell.vectors c.args.name) c.cell.view_is in
    let found = sym vectors ∙ sym c.get.ensures ∙ ap option_copied c.in_ok-vector.was in
    let ends = ap ends_of (sym c.as_slice.ensures) ∙ sym c.end_names.ensures ∙ c.in_ok-from.was in
    let start = sym c.place.ensures ∙ c.in_err-start.was in
    rw c.from_residual-in_err-start.ensures (sym (no_begin c.args.cell.now c.args.name _ _ _ c.if-name-ne-EDGE.false found ends start))

pub returns-in_err-end : goal.returns-in_err-end
returns-in_err-end c =
    let vectors = ap (λ (cell : CellValue). finite.get cell.vectors c.args.name) c.cell.view_is in
    let found = sym vectors ∙ sym c.get.ensures ∙ ap option_copied c.in_ok-vector.was in
    let ends = ap ends_of (sym c.as_slice.ensures) ∙ sym c.end_names.ensures ∙ c.in_ok-from.was in
    let start = sym c.place.ensures ∙ c.in_ok-start.was in
    let end = sym c.place-2.ensures ∙ c.in_err-end.was in
    rw c.from_residual-in_err-end.ensures (sym (no_end c.args.cell.now c.args.name _ _ _ _ c.if-name-ne-EDGE.false found ends start end))

pub returns : goal.returns
returns c =
    let vectors = ap (λ (cell : CellValue). finite.get cell.vectors c.args.name) c.cell.view_is in
    let found = sym vectors ∙ sym c.get.ensures ∙ ap option_copied c.in_ok-vector.was in
    let ends = ap ends_of (sym c.as_slice.ensures) ∙ sym c.end_names.ensures ∙ c.in_ok-from.was in
    let start = sym c.place.ensures ∙ c.in_ok-start.was in
    let end = sym c.place-2.ensures ∙ c.in_ok-end.was in
    rw c.as_slice-inner.ensures (sym (whole_edge c.args.cell.now c.args.name _ _ _ _ _ c.if-name-ne-EDGE.false found ends start end))
