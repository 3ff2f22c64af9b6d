-- No line parts a leg and a segment that meet.
use Rattle.std.proofs.Common.{◌≡◌, ℕ, ◌+◌, ◌*◌, ◌≤◌, ℤ, pos, ◌+ℤ◌, ◌-ℤ◌, ◌*ℤ◌, neg_ℤ, ◌≤ℤ◌, ◌<ℤ◌, unsigned_abs, ap, ◌∙◌, arith}
use Rattle.std.proofs.Math.Nat.{mul-le-mul_left}
use Rattle.std.proofs.lemmas.Int.{ints, by_lt_z, unsigned_abs-mul}
use Rattle.plane_geometry.specs.declared.point.Pt.{Pt}
use Rattle.plane_geometry.proofs.Integers.{times_sum, times_neg, times_swap}
use Rattle.route_geometry.specs.declared.leg.Leg.{Leg}
use Rattle.route_geometry.specs.Leg.{place, apart, MeetsSegment}
use Rattle.route_geometry.specs.Parted.{ahead, reach}
use Rattle.route_geometry.proofs.Forms.{form, at_start, at_leg_end, at_end}
use Rattle.route_geometry.proofs.Directions.{Beyond}

-- a form that is negative at both ends of both ways is negative between them
negative_between : (d t s : ℕ) (a b c : ℤ) → 1 ≤ d → t ≤ d → s ≤ d → a <ℤ pos 0 → (a +ℤ b) <ℤ pos 0 → (a +ℤ c) <ℤ pos 0 → ((a +ℤ b) +ℤ c) <ℤ pos 0 → form d t s a b c <ℤ pos 0
negative_between d t s a b c h on on' start leg segment end =
    by_lt_z (form d t s a b c) (pos 0) (λ low. low) (λ high.
    let other : pos 0 ≤ℤ form d s t a c b = omega (arith, ints, high) in
    by_lt_z b (pos 0)
    (λ leg_falls. by_lt_z c (pos 0)
    (λ segment_falls. absurd (omega (arith, ints, start, at_start d t s a b c h (omega (arith, ints, leg_falls)) (omega (arith, ints, segment_falls)) high)))
    (λ segment_rises. absurd (omega (arith, ints, segment, at_leg_end d s t a c b h on' segment_rises (omega (arith, ints, leg_falls)) other))))
    (λ leg_rises. by_lt_z c (pos 0)
    (λ segment_falls. absurd (omega (arith, ints, leg, at_leg_end d t s a b c h on leg_rises (omega (arith, ints, segment_falls)) high)))
    (λ segment_rises. absurd (omega (arith, ints, end, at_end d t s a b c h on on' leg_rises segment_rises high)))))

-- one way after the other
step_sum : (u p q r : ℤ) → u *ℤ (r -ℤ p) ≡ (u *ℤ (q -ℤ p)) +ℤ (u *ℤ (r -ℤ q))
step_sum u p q r =
    let sum : r -ℤ p ≡ (q -ℤ p) +ℤ (r -ℤ q) = omega (arith, ints) in
    ap (λ (z : ℤ). u *ℤ z) sum ∙ times_sum u (q -ℤ p) (r -ℤ q)

ahead_sum : (u v : ℤ) (p q r : Pt) → ahead u v p r ≡ ahead u v p q +ℤ ahead u v q r
ahead_sum u v p q r = omega (arith, ints, step_sum u p.x q.x r.x, step_sum v p.y q.y r.y)

-- how far apart two places are on an axis
apart_is : (d t s : ℕ) (a b c e : ℤ) → place d s c e -ℤ place d t a b ≡ ((pos d *ℤ (c -ℤ a)) -ℤ (pos t *ℤ (b -ℤ a))) -ℤ (pos s *ℤ (c -ℤ e))
apart_is d t s a b c e =
    let back : e -ℤ c ≡ neg_ℤ (c -ℤ e) = omega (arith, ints) in
    let turned = ap (λ (z : ℤ). pos s *ℤ z) back ∙ times_neg (pos s) (c -ℤ e) in
    omega (arith, ints, turned, times_sum (pos d) c (neg_ℤ a), times_neg (pos d) a)

times_apart : (u : ℤ) (d t s : ℕ) (x y z : ℤ) → u *ℤ (((pos d *ℤ x) -ℤ (pos t *ℤ y)) -ℤ (pos s *ℤ z)) ≡ ((pos d *ℤ (u *ℤ x)) -ℤ (pos t *ℤ (u *ℤ y))) -ℤ (pos s *ℤ (u *ℤ z))
times_apart u d t s x y z =
    omega (arith, ints, times_sum u ((pos d *ℤ x) -ℤ (pos t *ℤ y)) (neg_ℤ (pos s *ℤ z)), times_sum u (pos d *ℤ x) (neg_ℤ (pos t *ℤ y)), times_neg u (pos s *ℤ z), times_neg u (pos t *ℤ y), times_swap u (pos d) x, times_swap u (pos t) y, times_swap u (pos s) z)

-- what is at most so far apart is at most so far apart in a direction
within_reach : (u n m : ℤ) (k : ℕ) → n ≡ neg_ℤ m → unsigned_abs n ≤ k → (u *ℤ m) ≤ℤ pos (unsigned_abs u * k)
within_reach u n m k e h =
    let size : unsigned_abs m ≡ unsigned_abs n = omega (arith, ints, e) in
    let more = mul-le-mul_left (unsigned_abs u) h in
    let product : unsigned_abs (u *ℤ m) ≡ unsigned_abs u * unsigned_abs n = unsigned_abs-mul u m ∙ ap (λ (z : ℕ). unsigned_abs u * z) size in
    omega (arith, ints, product, more)

axis_reach : (u : ℤ) (d t s w : ℕ) (a b c e : ℤ) → apart d t s a b c e ≤ d * w → (((pos d *ℤ (u *ℤ (c -ℤ a))) -ℤ (pos t *ℤ (u *ℤ (b -ℤ a)))) -ℤ (pos s *ℤ (u *ℤ (c -ℤ e)))) ≤ℤ pos (unsigned_abs u * (d * w))
axis_reach u d t s w a b c e near =
    let most = within_reach u (place d t a b -ℤ place d s c e) (place d s c e -ℤ place d t a b) (d * w) (omega (arith, ints)) near in
    let is = ap (λ (z : ℤ). u *ℤ z) (apart_is d t s a b c e) ∙ times_apart u d t s (c -ℤ a) (b -ℤ a) (c -ℤ e) in
    rw is at most

-- the reach of both axes
reach_sum : (d m n w h : ℕ) → pos d *ℤ pos ((m * w) + (n * h)) ≡ pos (m * (d * w)) +ℤ pos (n * (d * h))
reach_sum d m n w h = omega (arith, ints)

pub met_not_beyond : (leg : Leg) (c e : Pt) → MeetsSegment leg c e → (u v : ℤ) → ¬ Beyond leg c e u v
met_not_beyond leg c e m u v b =
    let r = reach leg u v in
    let ab = ahead u v leg.a leg.b in
    let ec = ahead u v e c in
    let by_leg = ahead_sum u v leg.a leg.b c in
    let by_segment = ahead_sum u v leg.a e c in
    let by_end = ahead_sum u v leg.b e c in
    let low = negative_between m.d m.t m.s (r -ℤ ahead u v leg.a c) ab ec m.parts m.on_leg m.on_segment (omega (arith, ints, b.ac)) (omega (arith, ints, b.bc, by_leg)) (omega (arith, ints, b.ae, by_segment)) (omega (arith, ints, b.be, by_leg, by_end)) in
    let x = axis_reach u m.d m.t m.s leg.w leg.a.x leg.b.x c.x e.x m.near_x in
    let y = axis_reach v m.d m.t m.s leg.h leg.a.y leg.b.y c.y e.y m.near_y in
    let start = times_sum (pos m.d) r (neg_ℤ (ahead u v leg.a c)) in
    let ahead_start = times_sum (pos m.d) (u *ℤ (c.x -ℤ leg.a.x)) (v *ℤ (c.y -ℤ leg.a.y)) in
    let ahead_leg = times_sum (pos m.t) (u *ℤ (leg.b.x -ℤ leg.a.x)) (v *ℤ (leg.b.y -ℤ leg.a.y)) in
    let ahead_segment = times_sum (pos m.s) (u *ℤ (c.x -ℤ e.x)) (v *ℤ (c.y -ℤ e.y)) in
    absurd (omega (arith, ints, low, x, y, start, times_neg (pos m.d) (ahead u v leg.a c), ahead_start, ahead_leg, ahead_segment, reach_sum m.d (unsigned_abs u) (unsigned_abs v) leg.w leg.h))
