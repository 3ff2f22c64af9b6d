-- Places of a segment: whole parts of the way from one end to the other.
use Rattle.std.proofs.Common.{◌≡◌, ◌⊎◌, inl, inr, ℕ, ◌≤◌, ℤ, pos, negsuc, suc, zero, ◌-ℤ◌, ◌*ℤ◌, neg_ℤ, ◌≤ℤ◌, ◌<ℤ◌, ap, sym, ◌∙◌, refl, arith, IsTrue, eqb, of_z, w8}
use Rattle.std.specs.Int.{int_signum}
use Rattle.std.proofs.lemmas.Bool.{eqb-true}
use Rattle.std.proofs.lemmas.Int.{ints}
use Rattle.plane_geometry.specs.declared.point.Pt.{Pt}
use Rattle.plane_geometry.specs.Segment.{LiesOnSegment, IsBetween, IsInBox}
use Rattle.plane_geometry.specs.Orientation.{turn}
use Rattle.plane_geometry.proofs.Integers.{times_neg, neg_times_neg, times_comm, times_swap, cancel_le, cancel_eq, fewer_le}

-- t of d parts of the way (u, v) make the way (x, y)
pub record IsPart (u v x y : ℤ) : Type 0 where
  pub d : ℕ
  pub t : ℕ
  pub parts : 1 ≤ d
  pub on_the_way : t ≤ d
  pub at_x : pos d *ℤ x ≡ pos t *ℤ u
  pub at_y : pos d *ℤ y ≡ pos t *ℤ v

-- a length and a longer one in the same direction
part_of : (m n : ℕ) (v y : ℤ) → n ≤ suc m → pos (suc m) *ℤ y ≡ v *ℤ pos n → IsPart (pos (suc m)) v (pos n) y
part_of m n v y h e = record {
  d = suc m;
  t = n;
  parts = omega arith;
  on_the_way = h;
  at_x = times_comm (pos (suc m)) (pos n);
  at_y = e ∙ times_comm v (pos n);
}

-- as many parts of another way
as_many : (u v x y a b c d : ℤ) (p : IsPart u v x y) → pos p.d *ℤ c ≡ pos p.t *ℤ a → pos p.d *ℤ d ≡ pos p.t *ℤ b → IsPart a b c d
as_many u v x y a b c d p at_x at_y = record { d = p.d; t = p.t; parts = p.parts; on_the_way = p.on_the_way; at_x = at_x; at_y = at_y }

-- the same way the other way round
flipped : (u v x y : ℤ) → IsPart (neg_ℤ u) (neg_ℤ v) (neg_ℤ x) (neg_ℤ y) → IsPart u v x y
flipped u v x y p =
    as_many (neg_ℤ u) (neg_ℤ v) (neg_ℤ x) (neg_ℤ y) u v x y p
    (omega (arith, ints, p.at_x, times_neg (pos p.d) x, times_neg (pos p.t) u))
    (omega (arith, ints, p.at_y, times_neg (pos p.d) y, times_neg (pos p.t) v))

-- the axes exchanged
turned : (u v x y : ℤ) → IsPart v u y x → IsPart u v x y
turned u v x y p = as_many v u y x u v x y p p.at_y p.at_x

-- a way to the right, and its part
eastward : (u v x y : ℤ) → pos 0 <ℤ u → pos 0 ≤ℤ x → x ≤ℤ u → u *ℤ y ≡ v *ℤ x → IsPart u v x y
eastward (pos zero) v x y far h k e = absurd (omega (arith, ints, far))
eastward (pos (suc m)) v (pos n) y far h k e = part_of m n v y (omega (arith, ints, k)) e
eastward (pos (suc m)) v (negsuc n) y far h k e = absurd (omega (arith, ints, h))
eastward (negsuc m) v x y far h k e = absurd (omega (arith, ints, far))

-- a way to either side
sideways : (u v x y : ℤ) → ¬ (u ≡ pos 0) → ((pos 0 ≤ℤ x) × (x ≤ℤ u)) ⊎ ((u ≤ℤ x) × (x ≤ℤ pos 0)) → u *ℤ y ≡ v *ℤ x → IsPart u v x y
sideways u v x y far (inl h) e = eastward u v x y (omega (arith, ints)) h.0 h.1 e
sideways u v x y far (inr h) e =
    flipped u v x y (eastward (neg_ℤ u) (neg_ℤ v) (neg_ℤ x) (neg_ℤ y) (omega (arith, ints)) (omega (arith, ints)) (omega (arith, ints)) (neg_times_neg u y ∙ e ∙ sym (neg_times_neg v x)))

zero_or : (z : ℤ) → (z ≡ pos 0) ⊎ (¬ (z ≡ pos 0))
zero_or (pos zero) = inl refl
zero_or (pos (suc n)) = inr (λ e. absurd (omega (arith, ints, e)))
zero_or (negsuc n) = inr (λ e. absurd (omega (arith, ints, e)))

-- the first of two ways in one direction, of which neither is longer than the second on either axis
any_way : (u v x y : ℤ) → ((pos 0 ≤ℤ x) × (x ≤ℤ u)) ⊎ ((u ≤ℤ x) × (x ≤ℤ pos 0)) → ((pos 0 ≤ℤ y) × (y ≤ℤ v)) ⊎ ((v ≤ℤ y) × (y ≤ℤ pos 0)) → u *ℤ y ≡ v *ℤ x → (u ≡ pos 0) ⊎ (¬ (u ≡ pos 0)) → (v ≡ pos 0) ⊎ (¬ (v ≡ pos 0)) → IsPart u v x y
any_way u v x y h k e (inr far) _ = sideways u v x y far h e
any_way u v x y h k e (inl _) (inr far) = turned u v x y (sideways v u y x far k (sym e))
any_way u v x y h k e (inl f) (inl g) = record {
  d = 1;
  t = 0;
  parts = omega arith;
  on_the_way = omega arith;
  at_x = within_nothing u x f h;
  at_y = within_nothing v y g k;
}
  where
    within_nothing : (u x : ℤ) → u ≡ pos 0 → ((pos 0 ≤ℤ x) × (x ≤ℤ u)) ⊎ ((u ≤ℤ x) × (x ≤ℤ pos 0)) → pos 1 *ℤ x ≡ pos 0 *ℤ u
    within_nothing u x f (inl h) = omega (arith, ints)
    within_nothing u x f (inr h) = omega (arith, ints)

from_between : (c a b : ℤ) → IsBetween c a b → ((pos 0 ≤ℤ (c -ℤ a)) × ((c -ℤ a) ≤ℤ (b -ℤ a))) ⊎ (((b -ℤ a) ≤ℤ (c -ℤ a)) × ((c -ℤ a) ≤ℤ pos 0))
from_between c a b (inl h) = inl (omega (arith, ints), omega (arith, ints))
from_between c a b (inr h) = inr (omega (arith, ints), omega (arith, ints))

-- a part of a way is no longer than it
no_longer : (d t : ℕ) (u x : ℤ) → 1 ≤ d → t ≤ d → pos d *ℤ x ≡ pos t *ℤ u → ((pos 0 ≤ℤ x) × (x ≤ℤ u)) ⊎ ((u ≤ℤ x) × (x ≤ℤ pos 0))
no_longer d t (pos m) x h k e =
    let most = fewer_le t d (pos m) k (omega (arith, ints)) in
    let low : (pos d *ℤ pos 0) ≤ℤ (pos d *ℤ x) = omega (arith, ints) in
    inl (cancel_le d (pos 0) x h low, cancel_le d x (pos m) h (omega (arith, ints)))
no_longer d t (negsuc m) x h k e =
    let most = fewer_le t d (pos (suc m)) k (omega (arith, ints)) in
    let flip : pos d *ℤ neg_ℤ x ≡ pos t *ℤ pos (suc m) = omega (arith, ints, times_neg (pos d) x, times_neg (pos t) (negsuc m)) in
    let low : (pos d *ℤ pos 0) ≤ℤ (pos d *ℤ neg_ℤ x) = omega (arith, ints) in
    let least = cancel_le d (pos 0) (neg_ℤ x) h low in
    let furthest = cancel_le d (neg_ℤ x) (pos (suc m)) h (omega (arith, ints)) in
    inr (omega (arith, ints), omega (arith, ints))

to_between : (c a b : ℤ) → ((pos 0 ≤ℤ (c -ℤ a)) × ((c -ℤ a) ≤ℤ (b -ℤ a))) ⊎ (((b -ℤ a) ≤ℤ (c -ℤ a)) × ((c -ℤ a) ≤ℤ pos 0)) → IsBetween c a b
to_between c a b (inl h) = inl (omega (arith, ints), omega (arith, ints))
to_between c a b (inr h) = inr (omega (arith, ints), omega (arith, ints))

-- a part of a way has its direction
same_direction : (u v x y : ℤ) (d t : ℕ) → 1 ≤ d → pos d *ℤ x ≡ pos t *ℤ u → pos d *ℤ y ≡ pos t *ℤ v → u *ℤ y ≡ v *ℤ x
same_direction u v x y d t h e f =
    cancel_eq d (u *ℤ y) (v *ℤ x) h
    (times_swap (pos d) u y ∙ ap (λ (z : ℤ). u *ℤ z) f ∙ times_swap u (pos t) v ∙ ap (λ (z : ℤ). pos t *ℤ z) (times_comm u v) ∙ times_swap (pos t) v u ∙ ap (λ (z : ℤ). v *ℤ z) (sym e) ∙ times_swap v (pos d) x)

-- a point in the box round two others, in line with them, lies on their segment
pub lies_on_segment : (p a b : Pt) → IsInBox p a b → turn a b p ≡ pos 0 → LiesOnSegment p a b
lies_on_segment p a b box e =
    let u = b.x -ℤ a.x in
    let v = b.y -ℤ a.y in
    let q = any_way u v (p.x -ℤ a.x) (p.y -ℤ a.y) (from_between p.x a.x b.x box.across) (from_between p.y a.y b.y box.along) (omega (arith, ints, e)) (zero_or u) (zero_or v) in
    record { d = q.d; t = q.t; parts = q.parts; on_the_way = q.on_the_way; at_x = q.at_x; at_y = q.at_y }

-- a point on a segment is in the box round its ends
pub is_in_box : (p a b : Pt) → LiesOnSegment p a b → IsInBox p a b
is_in_box p a b q = record {
  across = to_between p.x a.x b.x (no_longer q.d q.t (b.x -ℤ a.x) (p.x -ℤ a.x) q.parts q.on_the_way q.at_x);
  along = to_between p.y a.y b.y (no_longer q.d q.t (b.y -ℤ a.y) (p.y -ℤ a.y) q.parts q.on_the_way q.at_y);
}

-- and in line with them
pub in_line : (p a b : Pt) → LiesOnSegment p a b → turn a b p ≡ pos 0
in_line p a b q =
    let e = same_direction (b.x -ℤ a.x) (b.y -ℤ a.y) (p.x -ℤ a.x) (p.y -ℤ a.y) q.d q.t q.parts q.at_x q.at_y in
    omega (arith, ints, e)

-- a number's sign is 0 where the number is
pub sign_zero : (z r : ℤ) → r ≡ int_signum z → IsTrue (eqb (of_z w8 r) 0) → z ≡ pos 0
sign_zero (pos zero) r e h = refl
sign_zero (pos (suc n)) r e h =
    let z : of_z w8 r ≡ 0 = eqb-true _ _ h in
    absurd (omega (arith, ap (of_z w8) e))
sign_zero (negsuc n) r e h =
    let z : of_z w8 r ≡ 0 = eqb-true _ _ h in
    absurd (omega (arith, ap (of_z w8) e))

pub zero_sign : (z r : ℤ) → r ≡ int_signum z → z ≡ pos 0 → IsTrue (eqb (of_z w8 r) 0)
zero_sign z r e h = rw (e, h) refl
