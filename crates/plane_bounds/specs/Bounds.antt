-- The box round rings.
use Rattle.std.specs.Prelude.{ℤ, pos, neg_ℤ, ◌≤ℤ◌, List, All}
use Rattle.std.specs.Int.{int_min, int_max}
use Rattle.plane_geometry.specs.declared.point.Pt.{Pt}
use Rattle.plane_bounds.specs.declared.bounds.Bounds.{Bounds}

-- the point is in the box
pub record IsIn (bounds : Bounds) (p : Pt) : Type 0 where
  pub west : bounds.x0 ≤ℤ p.x
  pub east : p.x ≤ℤ bounds.x1
  pub south : bounds.y0 ≤ℤ p.y
  pub north : p.y ≤ℤ bounds.y1

-- the box with one more point
abbrev pub with_point : Bounds → Pt → Bounds
with_point bounds p = record {
  x0 = int_min bounds.x0 p.x;
  y0 = int_min bounds.y0 p.y;
  x1 = int_max bounds.x1 p.x;
  y1 = int_max bounds.y1 p.y;
}

-- the box of a point alone
abbrev pub box_at : Pt → Bounds
box_at p = record { x0 = p.x; y0 = p.y; x1 = p.x; y1 = p.y }

-- the least box round two
abbrev pub around : Bounds → Bounds → Bounds
around one other = record {
  x0 = int_min one.x0 other.x0;
  y0 = int_min one.y0 other.y0;
  x1 = int_max one.x1 other.x1;
  y1 = int_max one.y1 other.y1;
}

-- from low to high and from the third number to the fourth there are numbers, and one is common to both
pub record HaveCommon (low high from to : ℤ) : Type 0 where
  pub some : low ≤ℤ high
  pub others : from ≤ℤ to
  pub before : low ≤ℤ to
  pub behind : from ≤ℤ high

-- a point is in both boxes
pub record Meets (a b : Bounds) : Type 0 where
  pub p : Pt
  pub in_one : IsIn a p
  pub in_other : IsIn b p

-- all points of the rings are in the box
abbrev pub RingsIn : Bounds → List (List Pt) → Type 0
RingsIn bounds rings = All (λ ring. All (IsIn bounds) ring) rings

-- the grown box holds all that the other holds
pub record Holds (grown bounds : Bounds) : Type 0 where
  pub west : grown.x0 ≤ℤ bounds.x0
  pub east : bounds.x1 ≤ℤ grown.x1
  pub south : grown.y0 ≤ℤ bounds.y0
  pub north : bounds.y1 ≤ℤ grown.y1

-- a box grown by points: the least that holds it and them
pub record HasGrown (bounds grown : Bounds) (points : List Pt) : Type 0 where
  pub kept : Holds grown bounds
  pub all : All (IsIn grown) points
  pub least : (other : Bounds) → Holds other bounds → All (IsIn other) points → Holds other grown

-- the borders are numbers of 64 bits: the west and the south at most the greatest, the others at least the least
pub record IsBox (bounds : Bounds) : Type 0 where
  pub west : bounds.x0 ≤ℤ pos 9223372036854775807
  pub south : bounds.y0 ≤ℤ pos 9223372036854775807
  pub east : neg_ℤ (pos 9223372036854775808) ≤ℤ bounds.x1
  pub north : neg_ℤ (pos 9223372036854775808) ≤ℤ bounds.y1
