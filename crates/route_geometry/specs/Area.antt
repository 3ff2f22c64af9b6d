-- What a widened leg meets of an area.
use Rattle.std.specs.Prelude.{◌⊎◌, List, Any}
use Rattle.plane_geometry.specs.declared.point.Pt.{Pt}
use Rattle.plane_geometry.specs.EvenOdd.{all_segments, IsInside}
use Rattle.route_geometry.specs.declared.leg.Leg.{Leg}
use Rattle.route_geometry.specs.Leg.{MeetsSegment}

-- the leg meets one of the segments
abbrev pub MeetsSome : Leg → List (Pt × Pt) → Type 0
MeetsSome leg segments = Any (λ s. MeetsSegment leg s.0 s.1) segments

-- the leg meets a segment of the rings, or its first point is inside them
abbrev pub MeetsArea : Leg → List (List Pt) → Type 0
MeetsArea leg rings = MeetsSome leg (all_segments rings) ⊎ IsInside leg.a rings
