-- Where the nodes of a chart are, and by them the boxes of its vector records.
use Rattle.std.specs.Prelude.{◌==◌, if◌then◌else◌, List, [], ◌∷◌, ◌++◌, map, slice_get, Option, Some, None, option_map}
use Rattle.std.specs.List.{filter_map}
use Rattle.std.specs.Option.{option_and_then}
use Rattle.std.specs.FinMap as finite
use Rattle.chart_model.specs.declared.name.Name.{Name}
use Rattle.chart_model.specs.declared.record.Coord.{Coord}
use Rattle.chart_model.specs.declared.cell.Vector.{Vector}
use Rattle.chart_model.specs.Codes.{EDGE}
use Rattle.chart_model.specs.Names.{name_cmp}
use Rattle.chart_model.specs.Cell.{CellValue}
use Rattle.plane_geometry.specs.declared.point.Pt.{Pt}
use Rattle.area_rings.specs.Choice.{◌>>=◌}
use Rattle.area_rings.specs.Edge.{ends_of, is_node, point_of}
use Rattle.spatial_grid.specs.declared.edges.Ends.{Ends}
use Rattle.plane_bounds.specs.declared.bounds.Bounds.{Bounds}
use Rattle.spatial_grid.specs.Boxes.{box_of, under_name}

-- where a vector record is: at its first coordinate, if it is a node
abbrev pub node_place : Name → Vector → Option Pt
node_place name vector = if is_node name then option_map point_of (slice_get vector.coords 0) else None

-- the nodes that have a coordinate, in the order of their names
abbrev pub node_table : CellValue → List (Name × Pt)
node_table cell = filter_map (λ entry. under_name entry.0 (node_place entry.0 entry.1)) (finite.entries cell.vectors)

-- the ends of a vector record, if it is an edge whose nodes are among these
abbrev pub ends_at : List (Name × Pt) → Name → Vector → Option Ends
ends_at nodes name vector =
    if name.rcnm == EDGE then (do
      ends ← ends_of vector.pointers
      start ← finite.find name_cmp ends.0 nodes
      end ← finite.find name_cmp ends.1 nodes
      Some (record { start = start; end = end })) else None

-- the line of an edge with these ends, by the coordinates between them
abbrev pub line_between : Ends → List Coord → List Pt
line_between ends inner = ends.start ∷ map point_of inner ++ ends.end ∷ []

-- the box round the coordinates of a node, or round the line of an edge between nodes that are among these
abbrev pub record_box : List (Name × Pt) → Name → Vector → Option Bounds
record_box nodes name vector =
    if is_node name then box_of (map point_of vector.coords) else
    option_and_then (λ ends. box_of (line_between ends vector.coords)) (ends_at nodes name vector)

-- those of all vector records, in the order of their names
abbrev pub record_table : List (Name × Pt) → CellValue → List (Name × Bounds)
record_table nodes cell =
    filter_map (λ entry. under_name entry.0 (record_box nodes entry.0 entry.1)) (finite.entries cell.vectors)
