-- A walk along a line.
use Rattle.std.proofs.Common.{◌≡◌, List, [], ◌∷◌, refl, ap}
use Rattle.std.specs.List.{list_any}
use Rattle.plane_geometry.specs.declared.point.Pt.{Pt}
use Rattle.plane_geometry.proofs.Walk.{line_from}
use Rattle.route_geometry.specs.declared.leg.Leg.{Leg}
use Rattle.route_geometry.specs.Parted.{meets_segment}
use Rattle.route_check.specs.Meeting.{line_segments, meets_line}

-- the segments of a line, from its first point on
line-segments : (first : Pt) (others : List Pt) → line_from first others ≡ line_segments (first ∷ others)
line-segments first [] = refl
line-segments first (next ∷ others) = ap (λ (l : List (Pt × Pt)). (first, next) ∷ l) (line-segments next others)

pub whole_line : (leg : Leg) (first : Pt) (others : List Pt) → list_any (λ s. meets_segment leg s.0 s.1) (line_from first others) ≡ meets_line leg (first ∷ others)
whole_line leg first others = ap (list_any (λ s. meets_segment leg s.0 s.1)) (line-segments first others)
