-- The points of a cell's features are coordinates of its records.
use Rattle.std.proofs.Common.{Bool, true, false, cond, List, [], ◌∷◌, Option, Some, None, All}
use Rattle.std.specs.Prelude.{IfSome, option_map, ◌==◌}
use Rattle.std.specs.Option.{option_and_then}
use Rattle.std.specs.List.{flat_map}
use Rattle.std.specs.FinMap as finite
use Rattle.std.proofs.lemmas.List.Elements.{All-nil, All-append}
use Rattle.chart_model.specs.declared.name.Name.{Name}
use Rattle.chart_model.specs.declared.record.Coord.{Coord}
use Rattle.chart_model.specs.declared.record.Pointer.{Pointer}
use Rattle.chart_model.specs.declared.cell.Vector.{Vector}
use Rattle.chart_model.specs.declared.cell.Feature.{Feature}
use Rattle.chart_model.specs.Cell.{CellValue, IsCell, IsVector}
use Rattle.chart_model.specs.Codes.{POINT, LINE, AREA, NO_PRIMITIVE}
use Rattle.chart_model.specs.Record.{IsCoord}
use Rattle.plane_geometry.specs.declared.point.Pt.{Pt}
use Rattle.area_rings.specs.declared.shape.Shape.TheVariants.{Points, Lines, Rings, Bare}
use Rattle.area_rings.specs.Choice.{each}
use Rattle.area_rings.specs.Edge.{is_node, node_of}
use Rattle.area_rings.specs.Shape.{points_of, lines_of, rings_of, shape_of}
use Rattle.depth_symbology.specs.Soundings.{HasCoords}

node_coords : (cell : CellValue) → IsCell cell → (name : Name) → IfSome (node_of cell name) (λ node. All IsCoord node.coords)
node_coords cell is name = by (is_node name) (finite.get cell.vectors name) (is.vectors name)
  where
    by : (b : Bool) (o : Option Vector) → IfSome o (IsVector name) → IfSome (cond b o None) (λ node. All IsCoord node.coords)
    by false o h = tt
    by true None h = tt
    by true (Some node) h = h.coords.each

abbrev nodes_of : CellValue → List Pointer → Option (List Vector)
nodes_of cell pointers = each (λ pointer. node_of cell pointer.target) pointers

nodes_coords : (cell : CellValue) → IsCell cell → (pointers : List Pointer)
    → IfSome (nodes_of cell pointers) (λ nodes. All IsCoord (flat_map (λ node. node.coords) nodes))
nodes_coords cell is [] = All-nil IsCoord
nodes_coords cell is (p ∷ ps) = by (node_of cell p.target) (node_coords cell is p.target) (nodes_of cell ps) (nodes_coords cell is ps)
  where
    by : (o : Option Vector) → IfSome o (λ node. All IsCoord node.coords) → (rest : Option (List Vector))
        → IfSome rest (λ nodes. All IsCoord (flat_map (λ node. node.coords) nodes))
        → IfSome (option_and_then (λ y. option_and_then (λ ys. Some (y ∷ ys)) rest) o) (λ nodes. All IsCoord (flat_map (λ node. node.coords) nodes))
    by None h rest r = tt
    by (Some node) h None r = tt
    by (Some node) h (Some nodes) r = All-append IsCoord node.coords (flat_map (λ (n : Vector). n.coords) nodes) h r

points_coords : (cell : CellValue) → IsCell cell → (pointers : List Pointer) → IfSome (points_of cell pointers) (All IsCoord)
points_coords cell is pointers = by (nodes_of cell pointers) (nodes_coords cell is pointers)
  where
    by : (o : Option (List Vector)) → IfSome o (λ nodes. All IsCoord (flat_map (λ node. node.coords) nodes))
        → IfSome (option_map (flat_map (λ node. node.coords)) o) (All IsCoord)
    by None h = tt
    by (Some nodes) h = h

pub shape_coords : (cell : CellValue) → IsCell cell → (feature : Feature) → HasCoords (shape_of cell feature)
unfolding shape_of
shape_coords cell is feature =
    by (feature.prim == POINT) (feature.prim == LINE) (feature.prim == AREA) (feature.prim == NO_PRIMITIVE)
    (points_of cell feature.pointers) (points_coords cell is feature.pointers) (lines_of cell feature.pointers) (rings_of cell feature.pointers)
  where
    by : (a b c d : Bool) (points : Option (List Coord)) → IfSome points (All IsCoord) → (lines rings : Option (List (List Pt)))
        → HasCoords (cond a (option_map Points points) (cond b (option_map Lines lines) (cond c (option_map Rings rings) (cond d (Some Bare) None))))
    by true b c d None h lines rings = tt
    by true b c d (Some coords) h lines rings = h
    by false true c d points h None rings = tt
    by false true c d points h (Some lines) rings = tt
    by false false true d points h lines None = tt
    by false false true d points h lines (Some rings) = tt
    by false false false true points h lines rings = tt
    by false false false false points h lines rings = tt
