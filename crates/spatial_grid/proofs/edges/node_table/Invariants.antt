use Rattle.std.proofs.Common.{◌≡◌, ◌++◌}
use Rattle.std.specs.List.{filter_map}
use Rattle.chart_model.specs.declared.name.Name.{Name}
use Rattle.chart_model.specs.declared.cell.Vector.{Vector}
use Rattle.spatial_grid.specs.Boxes.{under_name}
use Rattle.spatial_grid.specs.Edges.{node_place, node_table}
use Rattle.spatial_grid.proofs.edges.node_table.Given as goal

abbrev pub invariant-loop-name : goal.invariant-loop-name
invariant-loop-name l =
    l.nodes.items ++ filter_map (λ (entry : Name × Vector). under_name entry.0 (node_place entry.0 entry.1)) l.name-iterator
    ≡ node_table l.cell
