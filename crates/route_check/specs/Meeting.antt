-- What of a shape a widened leg meets.
use Rattle.std.specs.Prelude.{Bool, false, List, zip, drop, Any}
use Rattle.std.specs.List.{list_any, flat_map}
use Rattle.chart_model.specs.declared.record.Coord.{Coord}
use Rattle.plane_geometry.specs.declared.point.Pt.{Pt}
use Rattle.area_rings.specs.declared.shape.Shape.{Shape}
use Rattle.area_rings.specs.declared.shape.Shape.TheVariants.{Points, Lines, Rings, Bare}
use Rattle.area_rings.specs.Edge.{point_of}
use Rattle.route_geometry.specs.declared.leg.Leg.{Leg}
use Rattle.route_geometry.specs.Leg.{MeetsSegment}
use Rattle.route_geometry.specs.Area.{MeetsSome, MeetsArea}
use Rattle.route_geometry.specs.Parted.{meets_segment, meets_area}

-- the segments of a line: each point but the last with the next
abbrev pub line_segments : List Pt → List (Pt × Pt)
line_segments line = zip line (drop 1 line)

-- the leg meets the shape: one of its points, a segment of one of its lines, or the area in its rings. A point is met
-- as the segment from it to itself is
abbrev pub MeetsShape : Leg → Shape → Type 0
MeetsShape leg (Points coords) = Any (λ coord. MeetsSegment leg (point_of coord) (point_of coord)) coords
MeetsShape leg (Lines lines) = MeetsSome leg (flat_map line_segments lines)
MeetsShape leg (Rings rings) = MeetsArea leg rings
MeetsShape leg Bare = ⊥

-- ---- the same as tests

abbrev pub meets_coord : Leg → Coord → Bool
meets_coord leg coord = meets_segment leg (point_of coord) (point_of coord)

abbrev pub meets_line : Leg → List Pt → Bool
meets_line leg line = list_any (λ s. meets_segment leg s.0 s.1) (line_segments line)

abbrev pub meets_shape : Leg → Shape → Bool
meets_shape leg (Points coords) = list_any (meets_coord leg) coords
meets_shape leg (Lines lines) = list_any (meets_line leg) lines
meets_shape leg (Rings rings) = meets_area leg rings
meets_shape leg Bare = false
