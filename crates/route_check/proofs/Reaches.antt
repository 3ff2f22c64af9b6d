-- A widened leg stays in the box that it reaches.
use Rattle.std.proofs.Common.{◌≡◌, ℕ, ◌*◌, ◌≤◌, ℤ, pos, ◌+ℤ◌, ◌-ℤ◌, ◌*ℤ◌, neg_ℤ, ◌≤ℤ◌, arith}
use Rattle.std.specs.Int.{int_min, int_max}
use Rattle.std.proofs.lemmas.Int.{ints, clamps, by_lt_z}
use Rattle.plane_geometry.specs.declared.point.Pt.{Pt}
use Rattle.plane_geometry.proofs.Integers.{times_sum, times_neg, cancel_le, scale_le, fewer_le}
use Rattle.plane_bounds.specs.declared.bounds.Bounds.{Bounds}
use Rattle.plane_bounds.specs.Bounds.{IsIn, HaveCommon, Meets}
use Rattle.plane_bounds.proofs.Meeting.{meets_where}
use Rattle.route_geometry.specs.declared.leg.Leg.{Leg}
use Rattle.route_geometry.specs.Leg.{place, apart, MeetsSegment}
use Rattle.route_check.specs.Reach.{reach_of}

-- from low to high is all that is at most w from a or from b
record Covers (low high a b : ℤ) (w : ℕ) : Type 0 where
  below_a : low ≤ℤ (a -ℤ pos w)
  below_b : low ≤ℤ (b -ℤ pos w)
  above_a : (a +ℤ pos w) ≤ℤ high
  above_b : (b +ℤ pos w) ≤ℤ high

covers : (a b : ℤ) (w : ℕ) → Covers (int_min a b -ℤ pos w) (int_max a b +ℤ pos w) a b w
covers a b w = record {
  below_a = omega (arith, ints, clamps);
  below_b = omega (arith, ints, clamps);
  above_a = omega (arith, ints, clamps);
  above_b = omega (arith, ints, clamps);
}

-- a way leads through no coordinate below both of its ends
place_low : (d t : ℕ) (x a b : ℤ) → t ≤ d → x ≤ℤ a → x ≤ℤ b → (pos d *ℤ x) ≤ℤ place d t a b
place_low d t x a b on below below' =
    by_lt_z b a
    (λ falls.
    let back : b -ℤ a ≡ neg_ℤ (a -ℤ b) = omega (arith, ints) in
    let part = fewer_le t d (a -ℤ b) on (omega (arith, ints, falls)) in
    omega (arith, ints, part, scale_le d x b below', rw (← back) at (times_neg (pos t) (a -ℤ b)), times_sum (pos d) a (neg_ℤ b), times_neg (pos d) b))
    (λ rises.
    let part = fewer_le 0 t (b -ℤ a) (omega arith) (omega (arith, ints, rises)) in
    omega (arith, ints, part, scale_le d x a below))

-- and through none above both
place_high : (d t : ℕ) (x a b : ℤ) → t ≤ d → a ≤ℤ x → b ≤ℤ x → place d t a b ≤ℤ (pos d *ℤ x)
place_high d t x a b on above above' =
    by_lt_z b a
    (λ falls.
    let back : b -ℤ a ≡ neg_ℤ (a -ℤ b) = omega (arith, ints) in
    let part = fewer_le 0 t (a -ℤ b) (omega arith) (omega (arith, ints, falls)) in
    omega (arith, ints, part, scale_le d a x above, rw (← back) at (times_neg (pos t) (a -ℤ b))))
    (λ rises.
    let part = fewer_le t d (b -ℤ a) on (omega (arith, ints, rises)) in
    omega (arith, ints, part, scale_le d b x above', times_sum (pos d) b (neg_ℤ a), times_neg (pos d) a))

-- on an axis, what comes near a way is where that reaches
near_low : (d t s w : ℕ) (low high to a b c e : ℤ) → 1 ≤ d → t ≤ d → s ≤ d → Covers low high a b w → c ≤ℤ to → e ≤ℤ to → apart d t s a b c e ≤ d * w → low ≤ℤ to
near_low d t s w low high to a b c e h on on' covers below below' near =
    cancel_le d low to h
    (omega (arith, ints, near, place_low d t (low +ℤ pos w) a b on (omega (arith, ints, covers.below_a)) (omega (arith, ints, covers.below_b)), place_high d s to c e on' below below', times_sum (pos d) low (pos w)))

near_high : (d t s w : ℕ) (low high from a b c e : ℤ) → 1 ≤ d → t ≤ d → s ≤ d → Covers low high a b w → from ≤ℤ c → from ≤ℤ e → apart d t s a b c e ≤ d * w → from ≤ℤ high
near_high d t s w low high from a b c e h on on' covers above above' near =
    cancel_le d from high h
    (omega (arith, ints, near, place_high d t (high -ℤ pos w) a b on (omega (arith, ints, covers.above_a)) (omega (arith, ints, covers.above_b)), place_low d s from c e on' above above', times_sum (pos d) high (neg_ℤ (pos w)), times_neg (pos d) (pos w)))

-- what comes near a way from one number to another reaches into them
near_common : (d t s w : ℕ) (low high from to a b c e : ℤ) → 1 ≤ d → t ≤ d → s ≤ d → Covers low high a b w → from ≤ℤ c → from ≤ℤ e → c ≤ℤ to → e ≤ℤ to
    → apart d t s a b c e ≤ d * w → HaveCommon from to low high
near_common d t s w low high from to a b c e h on on' covers above above' below below' near = record {
  some = omega (arith, ints, above, below);
  others = omega (arith, ints, covers.below_a, covers.above_a);
  before = near_high d t s w low high from a b c e h on on' covers above above' near;
  behind = near_low d t s w low high to a b c e h on on' covers below below' near;
}

module _ (leg : Leg) (bounds : Bounds) where
  abbrev across : Covers (reach_of leg).x0 (reach_of leg).x1 leg.a.x leg.b.x leg.w
  across = covers leg.a.x leg.b.x leg.w

  abbrev along : Covers (reach_of leg).y0 (reach_of leg).y1 leg.a.y leg.b.y leg.h
  along = covers leg.a.y leg.b.y leg.h

  -- a segment in the box is met only where the leg reaches the box
  pub met_meets : (c e : Pt) → IsIn bounds c → IsIn bounds e → MeetsSegment leg c e → Meets bounds (reach_of leg)
  met_meets c e c_in e_in m =
      meets_where bounds (reach_of leg)
      (near_common m.d m.t m.s leg.w (reach_of leg).x0 (reach_of leg).x1 bounds.x0 bounds.x1 leg.a.x leg.b.x c.x e.x m.parts m.on_leg m.on_segment across c_in.west e_in.west c_in.east e_in.east m.near_x)
      (near_common m.d m.t m.s leg.h (reach_of leg).y0 (reach_of leg).y1 bounds.y0 bounds.y1 leg.a.y leg.b.y c.y e.y m.parts m.on_leg m.on_segment along c_in.south e_in.south c_in.north e_in.north m.near_y)

  -- the leg begins in the box only where it reaches the box
  pub begun_meets : IsIn bounds leg.a → Meets bounds (reach_of leg)
  begun_meets q = record {
    p = leg.a;
    in_one = q;
    in_other = record {
      west = omega (arith, ints, across.below_a);
      east = omega (arith, ints, across.above_a);
      south = omega (arith, ints, along.below_a);
      north = omega (arith, ints, along.above_a);
    };
  }
