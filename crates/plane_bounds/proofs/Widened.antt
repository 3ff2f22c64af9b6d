-- A box with one more point, and a box round two.
use Rattle.std.proofs.Common.{arith}
use Rattle.std.proofs.lemmas.Int.{ints, clamps}
use Rattle.plane_geometry.specs.declared.point.Pt.{Pt}
use Rattle.plane_bounds.specs.declared.bounds.Bounds.{Bounds}
use Rattle.plane_bounds.specs.Bounds.{Holds, IsIn, around, with_point}

-- it holds the old box
pub holds_old : (old : Bounds) (p : Pt) → Holds (with_point old p) old
holds_old old p = record {
  west = omega (arith, ints, clamps);
  east = omega (arith, ints, clamps);
  south = omega (arith, ints, clamps);
  north = omega (arith, ints, clamps);
}

-- and the point
pub holds_point : (old : Bounds) (p : Pt) → IsIn (with_point old p) p
holds_point old p = record {
  west = omega (arith, ints, clamps);
  east = omega (arith, ints, clamps);
  south = omega (arith, ints, clamps);
  north = omega (arith, ints, clamps);
}

-- and each box that holds both holds it
pub held_by : (old : Bounds) (p : Pt) (other : Bounds) → Holds other old → IsIn other p → Holds other (with_point old p)
held_by old p other h q = record {
  west = omega (arith, ints, clamps, h.west, q.west);
  east = omega (arith, ints, clamps, h.east, q.east);
  south = omega (arith, ints, clamps, h.south, q.south);
  north = omega (arith, ints, clamps, h.north, q.north);
}

-- ---- two boxes

pub holds_one : (one other : Bounds) → Holds (around one other) one
holds_one one other = record {
  west = omega (arith, ints, clamps);
  east = omega (arith, ints, clamps);
  south = omega (arith, ints, clamps);
  north = omega (arith, ints, clamps);
}

pub holds_other : (one other : Bounds) → Holds (around one other) other
holds_other one other = record {
  west = omega (arith, ints, clamps);
  east = omega (arith, ints, clamps);
  south = omega (arith, ints, clamps);
  north = omega (arith, ints, clamps);
}

-- each box that holds both holds the box round them
pub holds_both : (one other box : Bounds) → Holds box one → Holds box other → Holds box (around one other)
holds_both one other box h k = record {
  west = omega (arith, ints, clamps, h.west, k.west);
  east = omega (arith, ints, clamps, h.east, k.east);
  south = omega (arith, ints, clamps, h.south, k.south);
  north = omega (arith, ints, clamps, h.north, k.north);
}
