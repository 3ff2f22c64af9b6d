use Rattle.std.proofs.Common.{drop}
use Rattle.plane_geometry.specs.EvenOdd.{all_segments}
use Rattle.route_geometry.specs.Leg.{MeetsSegment}
use Rattle.route_geometry.proofs.Walk.{Remains}
use Rattle.route_geometry.proofs.area.leg_meets_boundary.Given as goal

abbrev pub invariant-loop-ring : goal.invariant-loop-ring
invariant-loop-ring l = Remains (λ s. MeetsSegment l.leg s.0 s.1) (all_segments (drop l.ring-index l.rings)) (all_segments l.rings)
