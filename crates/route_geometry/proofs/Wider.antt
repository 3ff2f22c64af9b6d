-- Legs of one way, one wider than the other.
use Rattle.std.proofs.Common.{inl, inr, List, arith}
use Rattle.std.proofs.Math.Nat.{mul-le-mul_left}
use Rattle.plane_geometry.specs.declared.point.Pt.{Pt}
use Rattle.route_geometry.specs.declared.leg.Leg.{Leg}
use Rattle.route_geometry.specs.Leg.{MeetsSegment, IsWider}
use Rattle.route_geometry.specs.Area.{MeetsArea}

pub wider_meets_segment : (leg wide : Leg) (c e : Pt) → IsWider leg wide → MeetsSegment leg c e → MeetsSegment wide c e
wider_meets_segment leg wide c e q m =
    let across = mul-le-mul_left m.d q.w in
    let along = mul-le-mul_left m.d q.h in
    let near_x = rw (← q.a, ← q.b) at m.near_x in
    let near_y = rw (← q.a, ← q.b) at m.near_y in
    record {
      d = m.d;
      t = m.t;
      s = m.s;
      parts = m.parts;
      on_leg = m.on_leg;
      on_segment = m.on_segment;
      near_x = omega (arith, near_x, across);
      near_y = omega (arith, near_y, along);
    }

pub wider_meets_area : (leg wide : Leg) (rings : List (List Pt)) → IsWider leg wide → MeetsArea leg rings → MeetsArea wide rings
wider_meets_area leg wide rings q (inl (k, s, within, is, met)) =
    inl (k, s, within, is, wider_meets_segment leg wide s.0 s.1 q met)
wider_meets_area leg wide rings q (inr inside) = inr (rw (q.a) inside)
