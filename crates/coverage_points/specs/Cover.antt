-- Legs that an area covers.
use Rattle.std.specs.Prelude.{Bool, ◌&&◌, not, List}
use Rattle.std.specs.List.{list_any}
use Rattle.plane_geometry.specs.declared.point.Pt.{Pt}
use Rattle.plane_geometry.specs.EvenOdd.{all_segments}
use Rattle.plane_bounds.specs.Inside.{is_inside}
use Rattle.rational_points.specs.RationalPoint.{RationalPoint, LiesInside, LiesOnRings}
use Rattle.route_geometry.specs.declared.leg.Leg.{Leg}
use Rattle.route_geometry.specs.Parted.{meets_segment}
use Rattle.route_geometry.specs.Points.{LiesInLeg}

-- every point of the widened leg is inside the rings, and none is on one of them
pub record IsCovered (leg : Leg) (rings : List (List Pt)) : Type 0 where
  pub inside : (q : RationalPoint) → LiesInLeg leg q → LiesInside q rings
  pub off_rings : (q : RationalPoint) → LiesInLeg leg q → ¬ LiesOnRings q rings

-- the same as a test: the leg's first point is inside the rings, and the leg meets none of their segments
unfoldable pub is_covered : Leg → List (List Pt) → Bool
is_covered leg rings =
    is_inside leg.a rings && not (list_any (λ s. meets_segment leg s.0 s.1) (all_segments rings))
