-- The points of a widened leg: those that a segment meets, and those on the way to another.
use Rattle.std.proofs.Common.{◌≡◌, ℕ, ◌*◌, ◌≤◌, ◌<◌, ℤ, pos, ◌+ℤ◌, ◌-ℤ◌, ◌*ℤ◌, unsigned_abs, refl, sym, ap, ◌∙◌, arith}
use Rattle.std.proofs.Math.Nat.{mul-le-mul_left, mul-le-mul_right, le_of_mul-le-mul_left}
use Rattle.std.proofs.lemmas.Int.{ints, unsigned_abs-mul}
use Rattle.plane_geometry.specs.declared.point.Pt.{Pt}
use Rattle.plane_geometry.proofs.Integers.{times_sum, times_swap}
use Rattle.rational_points.specs.RationalPoint.{RationalPoint, whole, LiesOn, LiesBetween}
use Rattle.rational_points.proofs.Levels.{times_times}
use Rattle.rational_points.proofs.Multiples.{times_difference}
use Rattle.rational_points.proofs.CommonPoints.{along_first}
use Rattle.route_geometry.specs.declared.leg.Leg.{Leg}
use Rattle.route_geometry.specs.Leg.{place, apart, MeetsSegment}
use Rattle.route_geometry.specs.Points.{LiesInLeg}

-- ---- sizes

size_times : (n : ℕ) (z : ℤ) → unsigned_abs (pos n *ℤ z) ≡ n * unsigned_abs z
size_times n z = unsigned_abs-mul (pos n) z

some_times : (m n : ℕ) → 1 ≤ m → 1 ≤ n → 1 ≤ (m * n)
some_times m n h k = omega (arith, h, mul-le-mul_left m k)

-- of two numbers with equal multiples, how great one is at most, by the other
at_most_by : (m n k l : ℕ) (y z : ℤ) → 1 ≤ m → pos m *ℤ y ≡ pos n *ℤ z → unsigned_abs z ≤ k → (n * k) ≤ (m * l) → unsigned_abs y ≤ l
at_most_by m n k l y z some e h le =
    let lt : 0 < m = omega (arith, some) in
    let same : m * unsigned_abs y ≡ n * unsigned_abs z = sym (size_times m y) ∙ ap unsigned_abs e ∙ size_times n z in
    let most : (n * unsigned_abs z) ≤ (n * k) = mul-le-mul_left n h in
    let q : (m * unsigned_abs y) ≤ (m * l) = omega (arith, same, most, le) in
    le_of_mul-le-mul_left q lt

-- ---- what a segment meets

near_times : (d w : ℕ) (x y : ℤ) → unsigned_abs (x -ℤ y) ≤ (d * w) → unsigned_abs ((pos d *ℤ x) -ℤ (pos d *ℤ y)) ≤ ((d * d) * w)
near_times d w x y h =
    let more : (d * unsigned_abs (x -ℤ y)) ≤ (d * (d * w)) = mul-le-mul_left d h in
    let same : unsigned_abs ((pos d *ℤ x) -ℤ (pos d *ℤ y)) ≡ d * unsigned_abs (x -ℤ y) = ap unsigned_abs (times_difference d x y) ∙ size_times d (x -ℤ y) in
    omega (arith, same, more)

-- the point to which t of d parts of the way from a to b lead
abbrev place_of : (d t : ℕ) → 1 ≤ d → Pt → Pt → RationalPoint
place_of d t parts a b = record { d = d; x = place d t a.x b.x; y = place d t a.y b.y; parts = parts }

place_lies : (d t : ℕ) (parts : 1 ≤ d) (a b : Pt) → t ≤ d → LiesOn (place_of d t parts a b) a b
place_lies d t parts a b on = record {
  d = d;
  t = t;
  parts = parts;
  on_the_way = on;
  at_x = along_first d t a.x b.x;
  at_y = along_first d t a.y b.y;
}

-- a point of the widened leg that lies on the segment
pub record PointOf (leg : Leg) (c e : Pt) : Type 0 where
  pub q : RationalPoint
  pub in_leg : LiesInLeg leg q
  pub on : LiesOn q c e

pub met_point : (leg : Leg) (c e : Pt) → MeetsSegment leg c e → PointOf leg c e
met_point leg c e m = record {
  q = place_of m.d m.s m.parts c e;
  in_leg = record {
    p = place_of m.d m.t m.parts leg.a leg.b;
    on_the_way = place_lies m.d m.t m.parts leg.a leg.b m.on_leg;
    near = record {
      near_x = near_times m.d leg.w (place m.d m.t leg.a.x leg.b.x) (place m.d m.s c.x e.x) m.near_x;
      near_y = near_times m.d leg.h (place m.d m.t leg.a.y leg.b.y) (place m.d m.s c.y e.y) m.near_y;
    };
  };
  on = place_lies m.d m.s m.parts c e m.on_segment;
}

-- ---- what meets a segment

on_from : (x p : ℤ) → x +ℤ (p -ℤ x) ≡ p
on_from x p = omega (arith, ints)

gone_from : (x y : ℤ) → (x +ℤ y) -ℤ x ≡ y
gone_from x y = omega (arith, ints)

-- a point over m, to which t of d parts of a way lead, as a place of n times as many parts
place_is : (d t n m k : ℕ) (p a b : ℤ) → d * n ≡ k → pos d *ℤ (p -ℤ (pos m *ℤ a)) ≡ pos t *ℤ ((pos m *ℤ b) -ℤ (pos m *ℤ a)) → pos m *ℤ place k (t * n) a b ≡ pos k *ℤ p
place_is d t n m k p a b total e =
    times_sum (pos m) (pos k *ℤ a) (pos (t * n) *ℤ (b -ℤ a))
    ∙ (λ i. times_swap (pos m) (pos k) a i +ℤ way i)
    ∙ sym (times_sum (pos k) (pos m *ℤ a) (p -ℤ (pos m *ℤ a)))
    ∙ ap (λ (z : ℤ). pos k *ℤ z) (on_from (pos m *ℤ a) p)
  where
    way : pos m *ℤ (pos (t * n) *ℤ (b -ℤ a)) ≡ pos k *ℤ (p -ℤ (pos m *ℤ a))
    way =
        times_swap (pos m) (pos (t * n)) (b -ℤ a)
        ∙ ap (λ (z : ℤ). pos (t * n) *ℤ z) (sym (times_difference m b a))
        ∙ times_times t n ((pos m *ℤ b) -ℤ (pos m *ℤ a))
        ∙ times_swap (pos t) (pos n) ((pos m *ℤ b) -ℤ (pos m *ℤ a))
        ∙ ap (λ (z : ℤ). pos n *ℤ z) (sym e)
        ∙ times_swap (pos n) (pos d) (p -ℤ (pos m *ℤ a))
        ∙ sym (times_times d n (p -ℤ (pos m *ℤ a)))
        ∙ ap (λ (j : ℕ). pos j *ℤ (p -ℤ (pos m *ℤ a))) total

-- how far two places are apart whose points over m and n are so far apart
places_apart : (m n k : ℕ) (x y p q : ℤ) → pos m *ℤ x ≡ pos k *ℤ p → pos n *ℤ y ≡ pos k *ℤ q → pos (m * n) *ℤ (x -ℤ y) ≡ pos k *ℤ ((pos n *ℤ p) -ℤ (pos m *ℤ q))
places_apart m n k x y p q e f =
    times_times m n (x -ℤ y)
    ∙ ap (λ (z : ℤ). pos m *ℤ z) (sym (times_difference n x y))
    ∙ sym (times_difference m (pos n *ℤ x) (pos n *ℤ y))
    ∙ (λ i. first i -ℤ second i)
    ∙ times_difference k (pos n *ℤ p) (pos m *ℤ q)
  where
    first : pos m *ℤ (pos n *ℤ x) ≡ pos k *ℤ (pos n *ℤ p)
    first = times_swap (pos m) (pos n) x ∙ ap (λ (z : ℤ). pos n *ℤ z) e ∙ times_swap (pos n) (pos k) p

    second : pos m *ℤ (pos n *ℤ y) ≡ pos k *ℤ (pos m *ℤ q)
    second = ap (λ (z : ℤ). pos m *ℤ z) f ∙ times_swap (pos m) (pos k) q

places_near : (m n k w : ℕ) (x y p q : ℤ) → 1 ≤ m → 1 ≤ n → pos m *ℤ x ≡ pos k *ℤ p → pos n *ℤ y ≡ pos k *ℤ q → unsigned_abs ((pos n *ℤ p) -ℤ (pos m *ℤ q)) ≤ ((m * n) * w) → unsigned_abs (x -ℤ y) ≤ (k * w)
places_near m n k w x y p q some some' e f h =
    at_most_by (m * n) k ((m * n) * w) (k * w) (x -ℤ y) ((pos n *ℤ p) -ℤ (pos m *ℤ q)) (some_times m n some some')
    (places_apart m n k x y p q e f) h (omega arith)

pub point_meets : (leg : Leg) (q : RationalPoint) (c e : Pt) → LiesInLeg leg q → LiesOn q c e → MeetsSegment leg c e
point_meets leg q c e l on = record {
  d = l.on_the_way.d * on.d;
  t = l.on_the_way.t * on.d;
  s = on.t * l.on_the_way.d;
  parts = some_times l.on_the_way.d on.d l.on_the_way.parts on.parts;
  on_leg = mul-le-mul_right on.d l.on_the_way.on_the_way;
  on_segment = omega (arith, mul-le-mul_right l.on_the_way.d on.on_the_way);
  near_x = near leg.w leg.a.x leg.b.x c.x e.x l.p.x q.x l.on_the_way.at_x on.at_x l.near.near_x;
  near_y = near leg.h leg.a.y leg.b.y c.y e.y l.p.y q.y l.on_the_way.at_y on.at_y l.near.near_y;
}
  where
    near : (w : ℕ) (a b c e x y : ℤ) → pos l.on_the_way.d *ℤ (x -ℤ (pos l.p.d *ℤ a)) ≡ pos l.on_the_way.t *ℤ ((pos l.p.d *ℤ b) -ℤ (pos l.p.d *ℤ a))
        → pos on.d *ℤ (y -ℤ (pos q.d *ℤ c)) ≡ pos on.t *ℤ ((pos q.d *ℤ e) -ℤ (pos q.d *ℤ c))
        → unsigned_abs ((pos q.d *ℤ x) -ℤ (pos l.p.d *ℤ y)) ≤ ((l.p.d * q.d) * w)
        → apart (l.on_the_way.d * on.d) (l.on_the_way.t * on.d) (on.t * l.on_the_way.d) a b c e ≤ ((l.on_the_way.d * on.d) * w)
    near w a b c e x y at at' h =
        places_near l.p.d q.d (l.on_the_way.d * on.d) w
        (place (l.on_the_way.d * on.d) (l.on_the_way.t * on.d) a b) (place (l.on_the_way.d * on.d) (on.t * l.on_the_way.d) c e) x y l.p.parts q.parts
        (place_is l.on_the_way.d l.on_the_way.t on.d l.p.d (l.on_the_way.d * on.d) x a b refl at)
        (place_is on.d on.t l.on_the_way.d q.d (l.on_the_way.d * on.d) y c e (omega arith) at') h

-- ---- on the way to a point of the widened leg

-- the same part of the way to a point of the leg
on_leg_too : (m n d t k : ℕ) (p a b : ℤ) → pos d *ℤ (p -ℤ (pos k *ℤ a)) ≡ pos t *ℤ ((pos k *ℤ b) -ℤ (pos k *ℤ a))
    → pos (m * d) *ℤ (place m n (pos k *ℤ a) p -ℤ (pos (m * k) *ℤ a)) ≡ pos (n * t) *ℤ ((pos (m * k) *ℤ b) -ℤ (pos (m * k) *ℤ a))
on_leg_too m n d t k p a b e = left ∙ sym right
  where
    part : place m n (pos k *ℤ a) p -ℤ (pos (m * k) *ℤ a) ≡ pos n *ℤ (p -ℤ (pos k *ℤ a))
    part =
        ap (λ (z : ℤ). place m n (pos k *ℤ a) p -ℤ z) (times_times m k a)
        ∙ gone_from (pos m *ℤ (pos k *ℤ a)) (pos n *ℤ (p -ℤ (pos k *ℤ a)))

    way : (pos (m * k) *ℤ b) -ℤ (pos (m * k) *ℤ a) ≡ pos m *ℤ ((pos k *ℤ b) -ℤ (pos k *ℤ a))
    way = (λ i. times_times m k b i -ℤ times_times m k a i) ∙ times_difference m (pos k *ℤ b) (pos k *ℤ a)

    left : pos (m * d) *ℤ (place m n (pos k *ℤ a) p -ℤ (pos (m * k) *ℤ a)) ≡ pos m *ℤ (pos n *ℤ (pos t *ℤ ((pos k *ℤ b) -ℤ (pos k *ℤ a))))
    left =
        ap (λ (z : ℤ). pos (m * d) *ℤ z) part
        ∙ times_times m d (pos n *ℤ (p -ℤ (pos k *ℤ a)))
        ∙ ap (λ (z : ℤ). pos m *ℤ z) (times_swap (pos d) (pos n) (p -ℤ (pos k *ℤ a)) ∙ ap (λ (z : ℤ). pos n *ℤ z) e)

    right : pos (n * t) *ℤ ((pos (m * k) *ℤ b) -ℤ (pos (m * k) *ℤ a)) ≡ pos m *ℤ (pos n *ℤ (pos t *ℤ ((pos k *ℤ b) -ℤ (pos k *ℤ a))))
    right =
        ap (λ (z : ℤ). pos (n * t) *ℤ z) way
        ∙ times_times n t (pos m *ℤ ((pos k *ℤ b) -ℤ (pos k *ℤ a)))
        ∙ ap (λ (z : ℤ). pos n *ℤ z) (times_swap (pos t) (pos m) ((pos k *ℤ b) -ℤ (pos k *ℤ a)))
        ∙ times_swap (pos n) (pos m) (pos t *ℤ ((pos k *ℤ b) -ℤ (pos k *ℤ a)))

-- the first and the last of three factors exchanged, and the order of four turned round
exchanged_ends : (a b c z : ℤ) → a *ℤ (b *ℤ (c *ℤ z)) ≡ c *ℤ (b *ℤ (a *ℤ z))
exchanged_ends a b c z =
    times_swap a b (c *ℤ z) ∙ ap (λ (y : ℤ). b *ℤ y) (times_swap a c z) ∙ times_swap b c (a *ℤ z)

turned_round : (a b c d z : ℤ) → a *ℤ (b *ℤ (c *ℤ (d *ℤ z))) ≡ d *ℤ (c *ℤ (b *ℤ (a *ℤ z)))
turned_round a b c d z =
    ap (λ (y : ℤ). a *ℤ y) (exchanged_ends b c d z)
    ∙ times_swap a d (c *ℤ (b *ℤ z))
    ∙ ap (λ (y : ℤ). d *ℤ y) (times_swap a c (b *ℤ z) ∙ ap (λ (y : ℤ). c *ℤ y) (times_swap a b z))

shifted : (a b c d : ℤ) → b -ℤ c ≡ d → a +ℤ d ≡ (a +ℤ b) -ℤ c
shifted a b c d e = omega (arith, ints)

put_together : (a b c x u : ℤ) → x -ℤ a ≡ u -ℤ c → ((a +ℤ b) -ℤ c) -ℤ x ≡ b -ℤ u
put_together a b c x u e = omega (arith, ints)

-- n of m parts of the ways from a to p and to q lead as far apart as n of m parts of how far these are apart
apart_too : (m n k l r : ℕ) (a p q x : ℤ) → pos m *ℤ ((pos l *ℤ x) -ℤ (pos (r * l) *ℤ a)) ≡ pos n *ℤ ((pos r *ℤ q) -ℤ (pos (r * l) *ℤ a))
    → pos l *ℤ ((pos r *ℤ place m n (pos k *ℤ a) p) -ℤ (pos (m * k) *ℤ x)) ≡ pos (n * r) *ℤ ((pos l *ℤ p) -ℤ (pos k *ℤ q))
apart_too m n k l r a p q x e =
    sym (times_difference l (pos r *ℤ place m n (pos k *ℤ a) p) (pos (m * k) *ℤ x))
    ∙ (λ i. first i -ℤ second i)
    ∙ put_together (pos l *ℤ (pos r *ℤ (pos m *ℤ (pos k *ℤ a)))) (pos l *ℤ (pos r *ℤ (pos n *ℤ p))) (pos l *ℤ (pos r *ℤ (pos n *ℤ (pos k *ℤ a)))) (pos k *ℤ (pos m *ℤ (pos l *ℤ x))) (pos k *ℤ (pos n *ℤ (pos r *ℤ q))) third
    ∙ sym fourth
  where
    gone : (pos l *ℤ (pos r *ℤ (pos n *ℤ p))) -ℤ (pos l *ℤ (pos r *ℤ (pos n *ℤ (pos k *ℤ a)))) ≡ pos l *ℤ (pos r *ℤ (pos n *ℤ (p -ℤ (pos k *ℤ a))))
    gone =
        times_difference l (pos r *ℤ (pos n *ℤ p)) (pos r *ℤ (pos n *ℤ (pos k *ℤ a)))
        ∙ ap (λ (z : ℤ). pos l *ℤ z) (times_difference r (pos n *ℤ p) (pos n *ℤ (pos k *ℤ a)) ∙ ap (λ (z : ℤ). pos r *ℤ z) (times_difference n p (pos k *ℤ a)))

    first : pos l *ℤ (pos r *ℤ place m n (pos k *ℤ a) p) ≡ ((pos l *ℤ (pos r *ℤ (pos m *ℤ (pos k *ℤ a)))) +ℤ (pos l *ℤ (pos r *ℤ (pos n *ℤ p)))) -ℤ (pos l *ℤ (pos r *ℤ (pos n *ℤ (pos k *ℤ a))))
    first =
        ap (λ (z : ℤ). pos l *ℤ z) (times_sum (pos r) (pos m *ℤ (pos k *ℤ a)) (pos n *ℤ (p -ℤ (pos k *ℤ a))))
        ∙ times_sum (pos l) (pos r *ℤ (pos m *ℤ (pos k *ℤ a))) (pos r *ℤ (pos n *ℤ (p -ℤ (pos k *ℤ a))))
        ∙ shifted (pos l *ℤ (pos r *ℤ (pos m *ℤ (pos k *ℤ a)))) (pos l *ℤ (pos r *ℤ (pos n *ℤ p))) (pos l *ℤ (pos r *ℤ (pos n *ℤ (pos k *ℤ a)))) (pos l *ℤ (pos r *ℤ (pos n *ℤ (p -ℤ (pos k *ℤ a))))) gone

    second : pos l *ℤ (pos (m * k) *ℤ x) ≡ pos k *ℤ (pos m *ℤ (pos l *ℤ x))
    second = ap (λ (z : ℤ). pos l *ℤ z) (times_times m k x) ∙ exchanged_ends (pos l) (pos m) (pos k) x

    flat : pos m *ℤ ((pos l *ℤ x) -ℤ (pos r *ℤ (pos l *ℤ a))) ≡ pos n *ℤ ((pos r *ℤ q) -ℤ (pos r *ℤ (pos l *ℤ a)))
    flat =
        ap (λ (z : ℤ). pos m *ℤ ((pos l *ℤ x) -ℤ z)) (sym (times_times r l a))
        ∙ e
        ∙ ap (λ (z : ℤ). pos n *ℤ ((pos r *ℤ q) -ℤ z)) (times_times r l a)

    third : (pos k *ℤ (pos m *ℤ (pos l *ℤ x))) -ℤ (pos l *ℤ (pos r *ℤ (pos m *ℤ (pos k *ℤ a)))) ≡ (pos k *ℤ (pos n *ℤ (pos r *ℤ q))) -ℤ (pos l *ℤ (pos r *ℤ (pos n *ℤ (pos k *ℤ a))))
    third =
        ap (λ (z : ℤ). (pos k *ℤ (pos m *ℤ (pos l *ℤ x))) -ℤ z) (turned_round (pos l) (pos r) (pos m) (pos k) a)
        ∙ times_difference k (pos m *ℤ (pos l *ℤ x)) (pos m *ℤ (pos r *ℤ (pos l *ℤ a)))
        ∙ ap (λ (z : ℤ). pos k *ℤ z) (times_difference m (pos l *ℤ x) (pos r *ℤ (pos l *ℤ a)) ∙ flat ∙ sym (times_difference n (pos r *ℤ q) (pos r *ℤ (pos l *ℤ a))))
        ∙ sym (times_difference k (pos n *ℤ (pos r *ℤ q)) (pos n *ℤ (pos r *ℤ (pos l *ℤ a))))
        ∙ ap (λ (z : ℤ). (pos k *ℤ (pos n *ℤ (pos r *ℤ q))) -ℤ z) (turned_round (pos k) (pos n) (pos r) (pos l) a)

    to_p : pos (n * r) *ℤ (pos l *ℤ p) ≡ pos l *ℤ (pos r *ℤ (pos n *ℤ p))
    to_p = times_times n r (pos l *ℤ p) ∙ exchanged_ends (pos n) (pos r) (pos l) p

    to_q : pos (n * r) *ℤ (pos k *ℤ q) ≡ pos k *ℤ (pos n *ℤ (pos r *ℤ q))
    to_q =
        times_times n r (pos k *ℤ q)
        ∙ ap (λ (z : ℤ). pos n *ℤ z) (times_swap (pos r) (pos k) q)
        ∙ times_swap (pos n) (pos k) (pos r *ℤ q)

    fourth : pos (n * r) *ℤ ((pos l *ℤ p) -ℤ (pos k *ℤ q)) ≡ (pos l *ℤ (pos r *ℤ (pos n *ℤ p))) -ℤ (pos k *ℤ (pos n *ℤ (pos r *ℤ q)))
    fourth = sym (times_difference (n * r) (pos l *ℤ p) (pos k *ℤ q)) ∙ (λ i. to_p i -ℤ to_q i)

no_farther : (t d r k l w : ℕ) → t ≤ d → ((t * r) * ((k * l) * w)) ≤ (l * (((d * k) * r) * w))
no_farther t d r k l w h =
    let more : (t * (r * (k * (l * w)))) ≤ (d * (r * (k * (l * w)))) = mul-le-mul_right (r * (k * (l * w))) h in
    omega (arith, more)

over_one : (d t l r : ℕ) (q x z : ℤ) → pos d *ℤ ((pos (1 * l) *ℤ x) -ℤ z) ≡ pos t *ℤ ((pos (r * 1) *ℤ q) -ℤ z) → pos d *ℤ ((pos l *ℤ x) -ℤ z) ≡ pos t *ℤ ((pos r *ℤ q) -ℤ z)
over_one d t l r q x z e =
    let one : l ≡ 1 * l = omega arith in
    let one' : r * 1 ≡ r = omega arith in
    ap (λ (j : ℕ). pos d *ℤ ((pos j *ℤ x) -ℤ z)) one ∙ e ∙ ap (λ (j : ℕ). pos t *ℤ ((pos j *ℤ q) -ℤ z)) one'

-- what is on the way from the leg's first point to a point of the widened leg is a point of it too
pub point_on_the_way : (leg : Leg) (q r : RationalPoint) → LiesInLeg leg q → LiesBetween r (whole leg.a) q → LiesInLeg leg r
point_on_the_way leg q r l b = record {
  p = record {
    d = b.d * l.p.d;
    x = place b.d b.t (pos l.p.d *ℤ leg.a.x) l.p.x;
    y = place b.d b.t (pos l.p.d *ℤ leg.a.y) l.p.y;
    parts = some_times b.d l.p.d b.parts l.p.parts;
  };
  on_the_way = record {
    d = b.d * l.on_the_way.d;
    t = b.t * l.on_the_way.t;
    parts = some_times b.d l.on_the_way.d b.parts l.on_the_way.parts;
    on_the_way = shorter;
    at_x = on_leg_too b.d b.t l.on_the_way.d l.on_the_way.t l.p.d l.p.x leg.a.x leg.b.x l.on_the_way.at_x;
    at_y = on_leg_too b.d b.t l.on_the_way.d l.on_the_way.t l.p.d l.p.y leg.a.y leg.b.y l.on_the_way.at_y;
  };
  near = record {
    near_x = near leg.w leg.a.x l.p.x q.x r.x b.at_x l.near.near_x;
    near_y = near leg.h leg.a.y l.p.y q.y r.y b.at_y l.near.near_y;
  };
}
  where
    shorter : (b.t * l.on_the_way.t) ≤ (b.d * l.on_the_way.d)
    shorter =
        let first : (b.t * l.on_the_way.t) ≤ (b.d * l.on_the_way.t) = mul-le-mul_right l.on_the_way.t b.on_the_way in
        let second : (b.d * l.on_the_way.t) ≤ (b.d * l.on_the_way.d) = mul-le-mul_left b.d l.on_the_way.on_the_way in
        omega (arith, first, second)

    near : (w : ℕ) (a p y x : ℤ) → pos b.d *ℤ ((pos (1 * q.d) *ℤ x) -ℤ (pos (r.d * q.d) *ℤ a)) ≡ pos b.t *ℤ ((pos (r.d * 1) *ℤ y) -ℤ (pos (r.d * q.d) *ℤ a))
        → unsigned_abs ((pos q.d *ℤ p) -ℤ (pos l.p.d *ℤ y)) ≤ ((l.p.d * q.d) * w)
        → unsigned_abs ((pos r.d *ℤ place b.d b.t (pos l.p.d *ℤ a) p) -ℤ (pos (b.d * l.p.d) *ℤ x)) ≤ (((b.d * l.p.d) * r.d) * w)
    near w a p y x e h =
        at_most_by q.d (b.t * r.d) ((l.p.d * q.d) * w) (((b.d * l.p.d) * r.d) * w)
        ((pos r.d *ℤ place b.d b.t (pos l.p.d *ℤ a) p) -ℤ (pos (b.d * l.p.d) *ℤ x)) ((pos q.d *ℤ p) -ℤ (pos l.p.d *ℤ y)) q.parts
        (apart_too b.d b.t l.p.d q.d r.d a p y x (over_one b.d b.t q.d r.d y x (pos (r.d * q.d) *ℤ a) e)) h
        (no_farther b.t b.d r.d l.p.d q.d w b.on_the_way)
