-- When a leg and a segment are near on an axis.
use Rattle.std.proofs.Common.{◌≡◌, ◌↔◌, ℕ, ◌*◌, ◌≤◌, ℤ, pos, ◌+ℤ◌, ◌-ℤ◌, ◌*ℤ◌, neg_ℤ, ◌≤ℤ◌, arith}
use Rattle.std.proofs.lemmas.Int.{ints}
use Rattle.plane_geometry.specs.declared.point.Pt.{Pt}
use Rattle.plane_geometry.proofs.Integers.{times_sum, times_neg}
use Rattle.route_geometry.specs.declared.leg.Leg.{Leg}
use Rattle.route_geometry.specs.Leg.{place, apart, MeetsSegment}
use Rattle.route_geometry.specs.Side.{Place}
use Rattle.route_geometry.proofs.Forms.{form}

-- they are near where they are between two sides
pub near_between : (d t s w : ℕ) (a b c e x y z x' y' z' : ℤ) → x ≡ pos w +ℤ (a -ℤ c) → y ≡ b -ℤ a → z ≡ neg_ℤ (e -ℤ c) → x' ≡ pos w -ℤ (a -ℤ c) → y' ≡ neg_ℤ (b -ℤ a) → z' ≡ e -ℤ c → (apart d t s a b c e ≤ d * w) ↔ ((pos 0 ≤ℤ form d t s x y z) × (pos 0 ≤ℤ form d t s x' y' z'))
near_between d t s w a b c e x y z x' y' z' f g h f' g' h' =
    rw (f, g, h, f', g', h') (λ near. (omega (arith, ints, near, low, high), omega (arith, ints, near, low, high)), λ q. omega (arith, ints, low, high, q.0, q.1))
  where
    across : (pos d *ℤ a) -ℤ (pos d *ℤ c) ≡ pos d *ℤ (a -ℤ c)
    across = omega (arith, ints, times_sum (pos d) a (neg_ℤ c), times_neg (pos d) c)

    low : form d t s (pos w +ℤ (a -ℤ c)) (b -ℤ a) (neg_ℤ (e -ℤ c)) ≡ pos (d * w) +ℤ ((((pos d *ℤ a) +ℤ (pos t *ℤ (b -ℤ a))) -ℤ (pos d *ℤ c)) -ℤ (pos s *ℤ (e -ℤ c)))
    low = omega (arith, ints, across, times_sum (pos d) (pos w) (a -ℤ c), times_neg (pos s) (e -ℤ c))

    high : form d t s (pos w -ℤ (a -ℤ c)) (neg_ℤ (b -ℤ a)) (e -ℤ c) ≡ pos (d * w) -ℤ ((((pos d *ℤ a) +ℤ (pos t *ℤ (b -ℤ a))) -ℤ (pos d *ℤ c)) -ℤ (pos s *ℤ (e -ℤ c)))
    high = omega (arith, ints, across, times_sum (pos d) (pos w) (neg_ℤ (a -ℤ c)), times_neg (pos d) (a -ℤ c), times_neg (pos t) (b -ℤ a))

-- leg and segment meet at a place where they are near on both axes
pub met_at : (leg : Leg) (c e : Pt) (p : Place) → apart p.d p.t p.s leg.a.x leg.b.x c.x e.x ≤ p.d * leg.w → apart p.d p.t p.s leg.a.y leg.b.y c.y e.y ≤ p.d * leg.h → MeetsSegment leg c e
met_at leg c e p near_x near_y = record {
  d = p.d;
  t = p.t;
  s = p.s;
  parts = p.parts;
  on_leg = p.on_leg;
  on_segment = p.on_segment;
  near_x = near_x;
  near_y = near_y;
}

-- the way from a point to itself leads nowhere
pub still : (d s : ℕ) (p : ℤ) → place d s p p ≡ pos d *ℤ p
still d s p = omega (arith, ints, times_sum (pos s) p (neg_ℤ p), times_neg (pos s) p)
