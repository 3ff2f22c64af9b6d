-- What is n times as far from the origin.
use Rattle.std.proofs.Common.{◌≡◌, ℕ, ◌+◌, ◌-◌, ◌≤◌, ℤ, pos, ◌+ℤ◌, ◌-ℤ◌, ◌*ℤ◌, neg_ℤ, ◌≤ℤ◌, int_lt, false, ap, sym, ◌∙◌, arith}
use Rattle.std.proofs.lemmas.Int.{ints, by_lt_z}
use Rattle.plane_geometry.specs.declared.point.Pt.{Pt}
use Rattle.plane_geometry.specs.Segment.{LiesOnSegment}
use Rattle.plane_geometry.specs.Orientation.{turn}
use Rattle.plane_geometry.specs.EvenOdd.{crosses}
use Rattle.plane_geometry.proofs.Integers.{times_sum, times_neg, times_comm, times_swap, scale_le, scale_lt}
use Rattle.plane_geometry.proofs.Rays.{lt_yes, by_order, crosses_rising, crosses_falling, crosses_below, crosses_above}
use Rattle.rational_points.specs.RationalPoint.{times}

pub lt_no : (a b : ℤ) → b ≤ℤ a → int_lt a b ≡ false
lt_no a b h = grind (arith, ints)

pub times_difference : (n : ℕ) (a b : ℤ) → (pos n *ℤ a) -ℤ (pos n *ℤ b) ≡ pos n *ℤ (a -ℤ b)
times_difference n a b = omega (arith, ints, times_sum (pos n) a (neg_ℤ b), times_neg (pos n) b)

-- ---- segments that cross a ray

times_both : (n : ℕ) (u v : ℤ) → (pos n *ℤ u) *ℤ (pos n *ℤ v) ≡ pos n *ℤ (pos n *ℤ (u *ℤ v))
times_both n u v =
    times_swap (pos n *ℤ u) (pos n) v
    ∙ ap (λ (z : ℤ). pos n *ℤ z) (times_comm (pos n *ℤ u) v ∙ times_swap v (pos n) u ∙ ap (λ (z : ℤ). pos n *ℤ z) (times_comm v u))

product_times : (n : ℕ) (a b c d : ℤ) → ((pos n *ℤ a) -ℤ (pos n *ℤ b)) *ℤ ((pos n *ℤ c) -ℤ (pos n *ℤ d)) ≡ pos n *ℤ (pos n *ℤ ((a -ℤ b) *ℤ (c -ℤ d)))
product_times n a b c d = rw (times_difference n a b, times_difference n c d) (times_both n (a -ℤ b) (c -ℤ d))

turn_times : (n : ℕ) (a b p : Pt) → turn (times n a) (times n b) (times n p) ≡ pos n *ℤ (pos n *ℤ turn a b p)
turn_times n a b p =
    let ahead = (b.x -ℤ a.x) *ℤ (p.y -ℤ a.y) in
    let back = (b.y -ℤ a.y) *ℤ (p.x -ℤ a.x) in
    rw (product_times n b.x a.x p.y a.y, product_times n b.y a.y p.x a.x)
    (times_difference n (pos n *ℤ ahead) (pos n *ℤ back) ∙ ap (λ (z : ℤ). pos n *ℤ z) (times_difference n ahead back))

above_times : (n : ℕ) (z : ℤ) → 1 ≤ n → int_lt (pos 0) (pos n *ℤ z) ≡ int_lt (pos 0) z
above_times n z some =
    by_lt_z (pos 0) z
    (λ lt. lt_yes (pos 0) (pos n *ℤ z) (omega (arith, ints, scale_lt n (pos 0) z some lt)) ∙ sym (lt_yes (pos 0) z lt))
    (λ le. lt_no (pos 0) (pos n *ℤ z) (omega (arith, ints, scale_le n z (pos 0) le)) ∙ sym (lt_no (pos 0) z le))

below_times : (n : ℕ) (z : ℤ) → 1 ≤ n → int_lt (pos n *ℤ z) (pos 0) ≡ int_lt z (pos 0)
below_times n z some =
    by_lt_z z (pos 0)
    (λ lt. lt_yes (pos n *ℤ z) (pos 0) (omega (arith, ints, scale_lt n z (pos 0) some lt)) ∙ sym (lt_yes z (pos 0) lt))
    (λ le. lt_no (pos n *ℤ z) (pos 0) (omega (arith, ints, scale_le n (pos 0) z le)) ∙ sym (lt_no z (pos 0) le))

-- a segment crosses the ray from a point where it does with all sides n times as long
pub crosses_times : (n : ℕ) (p a b : Pt) → 1 ≤ n → crosses (times n p) (times n a, times n b) ≡ crosses p (a, b)
crosses_times n p a b some =
    by_order a.y p.y
    (λ from. by_order b.y p.y
    (λ to. crosses_below (times n p) (times n a) (times n b) (scale_le n a.y p.y from) (scale_le n b.y p.y to) ∙ sym (crosses_below p a b from to))
    (λ to. crosses_rising (times n p) (times n a) (times n b) (scale_le n a.y p.y from) (scale_lt n p.y b.y some to) ∙ left ∙ sym (crosses_rising p a b from to)))
    (λ from. by_order b.y p.y
    (λ to. crosses_falling (times n p) (times n a) (times n b) (scale_lt n p.y a.y some from) (scale_le n b.y p.y to) ∙ right ∙ sym (crosses_falling p a b from to))
    (λ to. crosses_above (times n p) (times n a) (times n b) (scale_lt n p.y a.y some from) (scale_lt n p.y b.y some to) ∙ sym (crosses_above p a b from to)))
  where
    left : int_lt (pos 0) (turn (times n a) (times n b) (times n p)) ≡ int_lt (pos 0) (turn a b p)
    left = ap (int_lt (pos 0)) (turn_times n a b p) ∙ above_times n (pos n *ℤ turn a b p) some ∙ above_times n (turn a b p) some

    right : int_lt (turn (times n a) (times n b) (times n p)) (pos 0) ≡ int_lt (turn a b p) (pos 0)
    right = ap (λ (z : ℤ). int_lt z (pos 0)) (turn_times n a b p) ∙ below_times n (pos n *ℤ turn a b p) some ∙ below_times n (turn a b p) some

-- ---- points on a segment

part_times : (n d t : ℕ) (p a b : ℤ) → pos d *ℤ (p -ℤ a) ≡ pos t *ℤ (b -ℤ a) → pos d *ℤ ((pos n *ℤ p) -ℤ (pos n *ℤ a)) ≡ pos t *ℤ ((pos n *ℤ b) -ℤ (pos n *ℤ a))
part_times n d t p a b e =
    rw (times_difference n p a, times_difference n b a)
    (times_swap (pos d) (pos n) (p -ℤ a) ∙ ap (λ (z : ℤ). pos n *ℤ z) e ∙ times_swap (pos n) (pos t) (b -ℤ a))

-- a point that lies on a segment does so with all sides n times as long
pub lies_times : (n : ℕ) (p a b : Pt) → LiesOnSegment p a b → LiesOnSegment (times n p) (times n a) (times n b)
lies_times n p a b q = record {
  d = q.d;
  t = q.t;
  parts = q.parts;
  on_the_way = q.on_the_way;
  at_x = part_times n q.d q.t p.x a.x b.x q.at_x;
  at_y = part_times n q.d q.t p.y a.y b.y q.at_y;
}

whole : (d t n : ℕ) (a : ℤ) → t + n ≡ d → pos d *ℤ a ≡ (pos t *ℤ a) +ℤ (pos n *ℤ a)
whole d t n a e =
    let same : pos d *ℤ a ≡ pos (t + n) *ℤ a = ap (λ (k : ℕ). pos k *ℤ a) (sym e) in
    omega (arith, ints, same)

rest_of_way : (d t n : ℕ) (p a b : ℤ) → t + n ≡ d → pos d *ℤ (p -ℤ a) ≡ pos t *ℤ (b -ℤ a) → pos d *ℤ (p -ℤ b) ≡ pos n *ℤ (a -ℤ b)
rest_of_way d t n p a b e f =
    omega (arith, ints, f, times_difference d p a, times_difference t b a, times_difference d p b, times_difference n a b, whole d t n a e, whole d t n b e)

-- a segment is the same from its other end
pub reversed : (p a b : Pt) → LiesOnSegment p a b → LiesOnSegment p b a
reversed p a b q =
    let on = q.on_the_way in
    let rest : q.t + (q.d - q.t) ≡ q.d = omega (arith, on) in
    record {
      d = q.d;
      t = q.d - q.t;
      parts = q.parts;
      on_the_way = omega arith;
      at_x = rest_of_way q.d q.t (q.d - q.t) p.x a.x b.x rest q.at_x;
      at_y = rest_of_way q.d q.t (q.d - q.t) p.y a.y b.y rest q.at_y;
    }

-- it begins and ends at its ends
pub begins : (a b : Pt) → LiesOnSegment a a b
begins a b = record {
  d = 1;
  t = 0;
  parts = omega arith;
  on_the_way = omega arith;
  at_x = omega (arith, ints);
  at_y = omega (arith, ints);
}
