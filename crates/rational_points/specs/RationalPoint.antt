-- Rational points, and where they lie: all sides are multiplied by the denominator.
use Rattle.std.specs.Prelude.{◌≡◌, ℕ, ℤ, pos, ◌*◌, ◌≤◌, ◌*ℤ◌, List, map, Any}
use Rattle.std.proofs.Common.{lit≤}
use Rattle.plane_geometry.specs.declared.point.Pt.{Pt}
use Rattle.plane_geometry.specs.Segment.{LiesOnSegment}
use Rattle.plane_geometry.specs.EvenOdd.{all_segments, IsOnRings, IsInside}

-- a point of the plane: two whole numbers x and y over one whole number d
pub record RationalPoint : Type 0 where
  pub d : ℕ
  pub x : ℤ
  pub y : ℤ
  pub parts : 1 ≤ d

-- a point of whole numbers
abbrev pub whole : Pt → RationalPoint
whole p = record { d = 1; x = p.x; y = p.y; parts = lit≤ tt }

-- the same point, over one denominator or two
pub record IsSamePoint (p q : RationalPoint) : Type 0 where
  pub at_x : pos q.d *ℤ p.x ≡ pos p.d *ℤ q.x
  pub at_y : pos q.d *ℤ p.y ≡ pos p.d *ℤ q.y

-- a point n times as far from the origin
abbrev pub times : ℕ → Pt → Pt
times n p = record { x = pos n *ℤ p.x; y = pos n *ℤ p.y }

-- rings, all sides n times as long
abbrev pub rings_times : ℕ → List (List Pt) → List (List Pt)
rings_times n rings = map (map (times n)) rings

-- a rational point, all sides multiplied by its denominator
abbrev pub numerators : RationalPoint → Pt
numerators p = record { x = p.x; y = p.y }

-- r lies on the closed segment from a to b
abbrev pub LiesOn : RationalPoint → Pt → Pt → Type 0
LiesOn r a b = LiesOnSegment (numerators r) (times r.d a) (times r.d b)

-- r lies on the closed segment from p to q
abbrev pub LiesBetween : RationalPoint → RationalPoint → RationalPoint → Type 0
LiesBetween r p q =
    LiesOnSegment (times (p.d * q.d) (numerators r))
    (times (r.d * q.d) (numerators p)) (times (r.d * p.d) (numerators q))

-- p lies on a segment of the rings
abbrev pub LiesOnRings : RationalPoint → List (List Pt) → Type 0
LiesOnRings p rings = IsOnRings (numerators p) (rings_times p.d rings)

-- p is inside the rings by the even-odd rule, or on one of them
abbrev pub LiesInside : RationalPoint → List (List Pt) → Type 0
LiesInside p rings = IsInside (numerators p) (rings_times p.d rings)

-- the segments from p to q and from a to b have a point in common
pub record HaveCommon (p q : RationalPoint) (a b : Pt) : Type 0 where
  pub r : RationalPoint
  pub between : LiesBetween r p q
  pub on : LiesOn r a b

-- the segment from p to q has a point in common with a segment of the rings
abbrev pub MeetsRings : RationalPoint → RationalPoint → List (List Pt) → Type 0
MeetsRings p q rings = Any (λ s. HaveCommon p q s.0 s.1) (all_segments rings)
