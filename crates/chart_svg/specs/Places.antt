-- Where an item of a drawing stands on the chart.
use Rattle.std.specs.Prelude.{ℕ, ◌/◌, pos, ◌+ℤ◌, int_div, false, List, [], ◌∷◌, map, length, slice_get}
use Rattle.std.specs.Prelude.{Option, Some, None, option_map, option_and_then}
use Rattle.std.specs.Option.{option_map_or}
use Rattle.std.specs.List.{flat_map}
use Rattle.std.specs.FinMap as finite
use Rattle.chart_model.specs.declared.cell.Feature.{Feature}
use Rattle.chart_model.specs.declared.drawing.Target.{Target}
use Rattle.chart_model.specs.declared.drawing.Target.TheVariants.{Whole, Edge, At}
use Rattle.chart_model.specs.declared.name.Name.{Name}
use Rattle.chart_model.specs.Cell.{CellValue}
use Rattle.chart_model.specs.Codes.{FEATURE, EDGE}
use Rattle.plane_geometry.specs.declared.point.Pt.{Pt}
use Rattle.area_rings.specs.declared.shape.Shape.{Shape}
use Rattle.area_rings.specs.declared.shape.Shape.TheVariants.{Points, Lines, Rings, Bare}
use Rattle.area_rings.specs.Edge.{point_of}
use Rattle.area_rings.specs.Shape.{line_of, shape_of}
use Rattle.draw_items.specs.Edges.{drawn_edges}

-- the feature of a number
abbrev pub feature_at : CellValue → ℕ → Option Feature
feature_at cell rcid = finite.get cell.features (record { rcnm = FEATURE; rcid = rcid })

abbrev pub shape_at : CellValue → ℕ → Option Shape
shape_at cell rcid = option_and_then (shape_of cell) (feature_at cell rcid)

-- a value as a list of it alone
abbrev pub alone : {A : Type 0} → Option A → List A
alone None = []
alone (Some value) = value ∷ []

-- ---- areas

-- the rings of an area; none of any other shape
abbrev pub rings_in : Option Shape → List (List Pt)
rings_in None = []
rings_in (Some (Points coords)) = []
rings_in (Some (Lines lines)) = []
rings_in (Some (Rings rings)) = rings
rings_in (Some Bare) = []

abbrev pub rings_at : CellValue → ℕ → Target → List (List Pt)
rings_at cell rcid Whole = rings_in (shape_at cell rcid)
rings_at cell rcid (Edge edge) = []
rings_at cell rcid (At x y) = []

-- ---- lines

abbrev pub edge_named : ℕ → Name
edge_named rcid = record { rcnm = EDGE; rcid = rcid }

-- the line of an edge from its begin node on
abbrev pub edge_lines : CellValue → Name → List (List Pt)
edge_lines cell edge = alone (line_of cell edge false)

-- the edges of a feature, without those that are hidden
abbrev pub edges_of : Option Feature → List Name
edges_of feature = option_map_or drawn_edges feature []

abbrev pub lines_at : CellValue → ℕ → Target → List (List Pt)
lines_at cell rcid Whole = flat_map (edge_lines cell) (edges_of (feature_at cell rcid))
lines_at cell rcid (Edge edge) = edge_lines cell (edge_named edge)
lines_at cell rcid (At x y) = []

-- ---- places of symbols

-- of a line the point half way along its points
abbrev pub middle_of : List Pt → Option Pt
middle_of line = slice_get line (length line / 2)

abbrev pub between : Pt → Pt → Pt
between p q = record { x = int_div (p.x +ℤ q.x) (pos 2); y = int_div (p.y +ℤ q.y) (pos 2) }

-- of a ring the middle between its first point and the point half way round
abbrev pub centre_of : List Pt → Option Pt
centre_of ring = option_and_then (λ first. option_map (between first) (middle_of ring)) (slice_get ring 0)

-- all points of a point feature; of a line its first edge's middle, and of an area its first ring's
abbrev pub places_in : Option Shape → List Pt
places_in None = []
places_in (Some (Points coords)) = map point_of coords
places_in (Some (Lines lines)) = alone (option_and_then middle_of (slice_get lines 0))
places_in (Some (Rings rings)) = alone (option_and_then centre_of (slice_get rings 0))
places_in (Some Bare) = []

abbrev pub places_at : CellValue → ℕ → Target → List Pt
places_at cell rcid Whole = places_in (shape_at cell rcid)
places_at cell rcid (Edge edge) = alone (option_and_then middle_of (line_of cell (edge_named edge) false))
places_at cell rcid (At x y) = record { x = x; y = y } ∷ []
