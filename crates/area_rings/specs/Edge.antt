-- Nodes, and edges between them (S-57 Part 3, chain-node topology).
use Rattle.std.specs.Prelude.{Bool, ◌&&◌, ◌||◌, ◌==◌, if◌then◌else◌, List, [], ◌∷◌, ◌++◌, map, reverse, slice_get}
use Rattle.std.specs.Prelude.{Option, Some, None, option_map}
use Rattle.std.specs.FinMap as finite
use Rattle.chart_model.specs.declared.name.Name.{Name}
use Rattle.chart_model.specs.declared.record.Coord.{Coord}
use Rattle.chart_model.specs.declared.record.Pointer.{Pointer}
use Rattle.chart_model.specs.declared.cell.Vector.{Vector}
use Rattle.chart_model.specs.Cell.{CellValue}
use Rattle.chart_model.specs.Codes.{ISOLATED_NODE, CONNECTED_NODE, EDGE, BEGIN_NODE, END_NODE, REVERSE}
use Rattle.plane_geometry.specs.declared.point.Pt.{Pt}
use Rattle.area_rings.specs.Choice.{◌>>=◌}

-- an isolated node or a connected node
abbrev pub is_node : Name → Bool
is_node name = (name.rcnm == ISOLATED_NODE) || (name.rcnm == CONNECTED_NODE)

-- the node of that name
abbrev pub node_of : CellValue → Name → Option Vector
node_of cell name = if is_node name then finite.get cell.vectors name else None

abbrev pub point_of : Coord → Pt
point_of coord = record { x = coord.x; y = coord.y }

-- where a node is: its first coordinate
unfoldable pub place_of : CellValue → Name → Option Pt
place_of cell name = do
  node ← node_of cell name
  coord ← slice_get node.coords 0
  Some (point_of coord)

-- two pointers are to a begin node and to an end node
abbrev pub begins_and_ends : Pointer → Pointer → Bool
begins_and_ends p q = (p.topi == BEGIN_NODE) && (q.topi == END_NODE)

-- the begin node and the end node, where there is one pointer to each and no other
unfoldable pub ends_of : List Pointer → Option (Name × Name)
ends_of (p ∷ q ∷ []) =
    if begins_and_ends p q then Some (p.target, q.target) else (
    if begins_and_ends q p then Some (q.target, p.target) else None)
ends_of pointers = None

-- an edge on the way from one of its nodes to the other, with all points of the way
pub record EdgeValue : Type 0 where
  pub from : Name
  pub to : Name
  pub points : List Pt

-- an edge from its begin node by its own points to its end node
unfoldable pub edge_of : CellValue → Name → Option EdgeValue
edge_of cell name =
    if name.rcnm == EDGE then (do
      edge ← finite.get cell.vectors name
      ends ← ends_of edge.pointers
      begin ← place_of cell ends.0
      end ← place_of cell ends.1
      Some (record { from = ends.0; to = ends.1; points = begin ∷ map point_of edge.coords ++ end ∷ [] })) else None

-- the way along an edge, in reverse or as it is
abbrev pub way_along : Bool → EdgeValue → EdgeValue
way_along reversed edge =
    if reversed then record { from = edge.to; to = edge.from; points = reverse edge.points } else edge

-- the line of an edge
abbrev pub line_of : CellValue → Name → Bool → Option (List Pt)
line_of cell name reversed = option_map (λ edge. (way_along reversed edge).points) (edge_of cell name)

-- the edge that a pointer gives, in reverse where its orientation says so
abbrev pub edge_along : CellValue → Pointer → Option EdgeValue
edge_along cell pointer = option_map (way_along (pointer.ornt == REVERSE)) (edge_of cell pointer.target)
