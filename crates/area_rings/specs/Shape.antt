-- The shape of a feature.
use Rattle.std.specs.Prelude.{Bool, ◌==◌, if◌then◌else◌, List, Option, Some, None, option_map}
use Rattle.std.specs.List.{flat_map}
use Rattle.chart_model.specs.declared.name.Name.{Name}
use Rattle.chart_model.specs.declared.record.Coord.{Coord}
use Rattle.chart_model.specs.declared.record.Pointer.{Pointer}
use Rattle.chart_model.specs.declared.cell.Feature.{Feature}
use Rattle.chart_model.specs.Cell.{CellValue}
use Rattle.chart_model.specs.Codes.{POINT, LINE, AREA, NO_PRIMITIVE, REVERSE}
use Rattle.plane_geometry.specs.declared.point.Pt.{Pt}
use Rattle.area_rings.specs.declared.shape.Shape.{Shape}
use Rattle.area_rings.specs.declared.shape.Shape.TheVariants.{Points, Lines, Rings, Bare}
use Rattle.area_rings.specs.Choice.{each}
use Rattle.area_rings.specs.Edge as edge
use Rattle.area_rings.specs.Rings as ring

abbrev pub line_of : CellValue → Name → Bool → Option (List Pt)
line_of = edge.line_of

abbrev pub rings_of : CellValue → List Pointer → Option (List (List Pt))
rings_of = ring.rings_of

-- all coordinates of the nodes that are pointed to
abbrev pub points_of : CellValue → List Pointer → Option (List Coord)
points_of cell pointers =
    option_map (flat_map (λ node. node.coords)) (each (λ pointer. edge.node_of cell pointer.target) pointers)

-- the line of each edge that is pointed to
abbrev pub lines_of : CellValue → List Pointer → Option (List (List Pt))
lines_of cell pointers = each (λ pointer. line_of cell pointer.target (pointer.ornt == REVERSE)) pointers

-- the shape of a point, a line, an area or an object without one
unfoldable pub shape_of : CellValue → Feature → Option Shape
shape_of cell feature =
    if feature.prim == POINT then option_map Points (points_of cell feature.pointers) else (
    if feature.prim == LINE then option_map Lines (lines_of cell feature.pointers) else (
    if feature.prim == AREA then option_map Rings (rings_of cell feature.pointers) else (
    if feature.prim == NO_PRIMITIVE then Some Bare else None)))
