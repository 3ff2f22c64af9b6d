-- Boxes that have a point in common.
use Rattle.std.proofs.Common.{ℤ, ◌≤ℤ◌, arith}
use Rattle.std.proofs.lemmas.Int.{ints, by_lt_z}
use Rattle.plane_bounds.specs.declared.bounds.Bounds.{Bounds}
use Rattle.plane_bounds.specs.Bounds.{HaveCommon, Meets}

-- a number from low to high and from the third number to the fourth
record IsCommon (low high from to n : ℤ) : Type 0 where
  above : low ≤ℤ n
  below : n ≤ℤ high
  behind : from ≤ℤ n
  before : n ≤ℤ to

common : (low high from to : ℤ) → HaveCommon low high from to → (n : ℤ) × IsCommon low high from to n
common low high from to h =
    by_lt_z low from
    (λ lt. (from, record { above = omega (arith, ints, lt); below = h.behind; behind = omega (arith, ints); before = h.others }))
    (λ le. (low, record { above = omega (arith, ints); below = h.some; behind = le; before = h.before }))

pub meets_where : (a b : Bounds) → HaveCommon a.x0 a.x1 b.x0 b.x1 → HaveCommon a.y0 a.y1 b.y0 b.y1 → Meets a b
meets_where a b across along =
    let x = common a.x0 a.x1 b.x0 b.x1 across in
    let y = common a.y0 a.y1 b.y0 b.y1 along in
    record {
      p = record { x = x.0; y = y.0 };
      in_one = record { west = x.1.above; east = x.1.below; south = y.1.above; north = y.1.below };
      in_other = record { west = x.1.behind; east = x.1.before; south = y.1.behind; north = y.1.before };
    }

have_common : (low high from to n : ℤ) → low ≤ℤ n → n ≤ℤ high → from ≤ℤ n → n ≤ℤ to → HaveCommon low high from to
have_common low high from to n a b c d = record {
  some = omega (arith, ints, a, b);
  others = omega (arith, ints, c, d);
  before = omega (arith, ints, a, d);
  behind = omega (arith, ints, c, b);
}

pub across_where : (a b : Bounds) → Meets a b → HaveCommon a.x0 a.x1 b.x0 b.x1
across_where a b m =
    have_common a.x0 a.x1 b.x0 b.x1 m.p.x m.in_one.west m.in_one.east m.in_other.west m.in_other.east

pub along_where : (a b : Bounds) → Meets a b → HaveCommon a.y0 a.y1 b.y0 b.y1
along_where a b m =
    have_common a.y0 a.y1 b.y0 b.y1 m.p.y m.in_one.south m.in_one.north m.in_other.south m.in_other.north
