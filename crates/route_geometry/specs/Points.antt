-- The points of a widened leg: rational points, since most of them aren't whole.
use Rattle.std.specs.Prelude.{ℕ, pos, ◌*◌, ◌≤◌, ◌-ℤ◌, ◌*ℤ◌, unsigned_abs, List}
use Rattle.plane_geometry.specs.declared.point.Pt.{Pt}
use Rattle.rational_points.specs.RationalPoint.{RationalPoint, LiesOn, LiesInside}
use Rattle.route_geometry.specs.declared.leg.Leg.{Leg}

-- two points differ by at most the leg's w in x and at most its h in y
pub record AreNear (leg : Leg) (p q : RationalPoint) : Type 0 where
  pub near_x : unsigned_abs ((pos q.d *ℤ p.x) -ℤ (pos p.d *ℤ q.x)) ≤ (p.d * q.d) * leg.w
  pub near_y : unsigned_abs ((pos q.d *ℤ p.y) -ℤ (pos p.d *ℤ q.y)) ≤ (p.d * q.d) * leg.h

-- q is near a point of the segment from the leg's first point to its second
pub record LiesInLeg (leg : Leg) (q : RationalPoint) : Type 0 where
  pub p : RationalPoint
  pub on_the_way : LiesOn p leg.a leg.b
  pub near : AreNear leg p q

-- a point of the widened leg is inside the rings or on one of them
pub record ReachesInside (leg : Leg) (rings : List (List Pt)) : Type 0 where
  pub q : RationalPoint
  pub in_leg : LiesInLeg leg q
  pub inside : LiesInside q rings
