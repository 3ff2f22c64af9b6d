-- The boxes of the features of a chart, as functions.
use Rattle.std.specs.Prelude.{false, if◌then◌else◌, List, [], map, Option, Some, None}
use Rattle.std.specs.List.{fold, filter_map}
use Rattle.std.specs.FinMap as finite
use Rattle.chart_model.specs.declared.name.Name.{Name}
use Rattle.chart_model.specs.declared.record.Pointer.{Pointer}
use Rattle.chart_model.specs.declared.cell.Vector.{Vector}
use Rattle.chart_model.specs.declared.cell.Feature.{Feature}
use Rattle.chart_model.specs.Names.{name_cmp}
use Rattle.chart_model.specs.Cell.{CellValue}
use Rattle.plane_geometry.specs.declared.point.Pt.{Pt}
use Rattle.area_rings.specs.declared.shape.Shape.{Shape}
use Rattle.area_rings.specs.Edge.{is_node, point_of}
use Rattle.area_rings.specs.Shape.{line_of, shape_of}
use Rattle.plane_bounds.specs.declared.bounds.Bounds.{Bounds}
use Rattle.plane_bounds.specs.Bounds.{around, box_at, with_point}
use Rattle.spatial_grid.specs.Box.{points_in}

-- the box with one more point; without a box, that of the point
abbrev pub box_with : Option Bounds → Pt → Option Bounds
box_with None p = Some (box_at p)
box_with (Some box) p = Some (with_point box p)

abbrev pub box_of : List Pt → Option Bounds
box_of points = fold box_with None points

-- the least box round two of which each may be missing
abbrev pub around_both : Option Bounds → Option Bounds → Option Bounds
around_both None other = other
around_both (Some one) None = Some one
around_both (Some one) (Some other) = Some (around one other)

abbrev pub box_in : Option Shape → Option Bounds
box_in None = None
box_in (Some shape) = box_of (points_in shape)

-- a value under a name
abbrev pub under_name : {X : Type 0} → Name → Option X → Option (Name × X)
under_name name None = None
under_name name (Some x) = Some (name, x)

-- the name of a feature and its box
abbrev pub entry_at : CellValue → Name × Feature → Option (Name × Bounds)
entry_at cell entry = under_name entry.0 (box_in (shape_of cell entry.1))

-- those of all features, in the order of their names
abbrev pub boxes_in : CellValue → List (Name × Bounds)
boxes_in cell = filter_map (entry_at cell) (finite.entries cell.features)

-- ---- the boxes of vector records

abbrev pub points_along : Option (List Pt) → List Pt
points_along None = []
points_along (Some line) = line

-- all points of a vector record: the coordinates of a node, or the line of an edge
abbrev pub points_under : CellValue → Name → Vector → List Pt
points_under cell name vector =
    if is_node name then map point_of vector.coords else points_along (line_of cell name false)

-- the name of a vector record and its box
abbrev pub record_at : CellValue → Name × Vector → Option (Name × Bounds)
record_at cell entry = under_name entry.0 (box_of (points_under cell entry.0 entry.1))

-- those of all vector records, in the order of their names
abbrev pub record_boxes : CellValue → List (Name × Bounds)
record_boxes cell = filter_map (record_at cell) (finite.entries cell.vectors)

-- the box round those that pointers name
abbrev pub box_round : List (Name × Bounds) → List Pointer → Option Bounds
box_round boxes pointers =
    fold (λ found pointer. around_both found (finite.find name_cmp pointer.target boxes)) None pointers
