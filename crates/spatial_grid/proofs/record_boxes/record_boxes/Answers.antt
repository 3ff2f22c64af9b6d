use Rattle.std.proofs.Common.{◌≡◌, T, List, sym, ap, ◌∙◌, subst}
use Rattle.std.specs.FinMap.{is_sorted}
use Rattle.std.proofs.lemmas.Result.{IfOk-weaker}
use Rattle.chart_model.specs.declared.name.Name.{Name}
use Rattle.chart_model.specs.Names.{name_cmp}
use Rattle.plane_geometry.specs.declared.point.Pt.{Pt}
use Rattle.spatial_grid.specs.Edges.{record_table}
use Rattle.spatial_grid.proofs.NodePlaces.{nodes_sorted, records_same}
use Rattle.spatial_grid.proofs.record_boxes.record_boxes.Goals as goal

pub record_table-requires : goal.record_table-requires
record_table-requires c =
    subst (λ (l : List (Name × Pt)). T (is_sorted name_cmp l)) (sym c.requires) (nodes_sorted c.args.cell.now)

pub returns : goal.returns
returns c =
    IfOk-weaker c.record_table.result (λ boxes. boxes.items ≡ record_table c.args.nodes.now c.args.cell.now) _
    (λ boxes is. is
    ∙ ap (λ (l : List (Name × Pt)). record_table l c.args.cell.now) c.requires
    ∙ records_same c.args.cell.now)
    c.record_table.ensures
