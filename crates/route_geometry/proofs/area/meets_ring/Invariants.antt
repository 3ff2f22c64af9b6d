use Rattle.std.proofs.Common.{drop}
use Rattle.plane_geometry.specs.EvenOdd.{segments}
use Rattle.plane_geometry.proofs.Walk.{line_from}
use Rattle.route_geometry.specs.Leg.{MeetsSegment}
use Rattle.route_geometry.proofs.Walk.{Remains}
use Rattle.route_geometry.proofs.area.meets_ring.Given as goal

abbrev pub invariant-loop-to : goal.invariant-loop-to
invariant-loop-to l = Remains (λ s. MeetsSegment l.leg s.0 s.1) (line_from l.from (drop l.to-index l.ring)) (segments l.ring)
