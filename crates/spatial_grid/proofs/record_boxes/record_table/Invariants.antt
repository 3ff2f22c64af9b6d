use Rattle.std.proofs.Common.{◌≡◌, ◌++◌}
use Rattle.std.specs.List.{filter_map}
use Rattle.chart_model.specs.declared.name.Name.{Name}
use Rattle.chart_model.specs.declared.cell.Vector.{Vector}
use Rattle.spatial_grid.specs.Boxes.{under_name}
use Rattle.spatial_grid.specs.Edges.{record_box, record_table}
use Rattle.spatial_grid.proofs.record_boxes.record_table.Given as goal

abbrev pub invariant-loop-name : goal.invariant-loop-name
invariant-loop-name l =
    l.boxes.items
    ++ filter_map (λ (entry : Name × Vector). under_name entry.0 (record_box l.nodes entry.0 entry.1)) l.name-iterator
    ≡ record_table l.nodes l.cell
