-- How a segment turns at a point that is to the west of it.
use Rattle.std.proofs.Common.{◌≡◌, suc, zero, ℤ, pos, negsuc, ◌+ℤ◌, ◌-ℤ◌, ◌*ℤ◌, neg_ℤ, ◌≤ℤ◌, ◌<ℤ◌, arith}
use Rattle.std.proofs.lemmas.Int.{ints}
use Rattle.plane_geometry.specs.declared.point.Pt.{Pt}
use Rattle.plane_geometry.specs.Orientation.{turn}
use Rattle.plane_geometry.proofs.Integers.{times_sum, times_neg, neg_times_neg, times_comm}

not_below : (a b : ℤ) → pos 0 ≤ℤ a → pos 0 ≤ℤ b → pos 0 ≤ℤ (a *ℤ b)
not_below (pos m) (pos n) h k = omega (arith, ints)
not_below (pos m) (negsuc n) h k = absurd (omega (arith, ints, k))
not_below (negsuc m) b h k = absurd (omega (arith, ints, h))

above : (a b : ℤ) → pos 0 <ℤ a → pos 0 <ℤ b → pos 0 <ℤ (a *ℤ b)
above (pos (suc m)) (pos (suc n)) h k = omega (arith, ints)
above (pos zero) b h k = absurd (omega (arith, ints, h))
above (pos (suc m)) (pos zero) h k = absurd (omega (arith, ints, k))
above (pos (suc m)) (negsuc n) h k = absurd (omega (arith, ints, k))
above (negsuc m) b h k = absurd (omega (arith, ints, h))

-- a way from a to b, of which one is at distance l and the other at distance m east, and y below and z above
rising_sum : (y l m z : ℤ) → ((m -ℤ l) *ℤ y) -ℤ ((y +ℤ z) *ℤ neg_ℤ l) ≡ (y *ℤ m) +ℤ (l *ℤ z)
rising_sum y l m z =
    omega (arith, ints, times_comm (m -ℤ l) y, times_sum y m (neg_ℤ l), times_neg y l, times_neg (y +ℤ z) l, times_comm (y +ℤ z) l, times_sum l y z, times_comm l y)

pub rising : (p a b : Pt) → p.x <ℤ a.x → p.x <ℤ b.x → a.y ≤ℤ p.y → p.y <ℤ b.y → pos 0 <ℤ turn a b p
rising p a b h k from to =
    turned (b.x -ℤ a.x) (p.y -ℤ a.y) (b.y -ℤ a.y) (p.x -ℤ a.x) (a.x -ℤ p.x) (b.x -ℤ p.x) (b.y -ℤ p.y) (omega (arith, ints)) (omega (arith, ints)) (omega (arith, ints)) (omega (arith, ints)) (omega (arith, ints)) (omega (arith, ints)) (omega (arith, ints))
  where
    turned : (u y v x l m z : ℤ) → u ≡ m -ℤ l → v ≡ y +ℤ z → x ≡ neg_ℤ l → pos 0 ≤ℤ y → pos 0 <ℤ z → pos 0 <ℤ l → pos 0 <ℤ m → pos 0 <ℤ ((u *ℤ y) -ℤ (v *ℤ x))
    turned u y v x l m z e f g low high left right =
        rw (e, f, g, rising_sum y l m z) (omega (arith, ints, not_below y m low (omega (arith, ints)), above l z left high))

falling_sum : (y l m z : ℤ) → ((m -ℤ l) *ℤ neg_ℤ y) -ℤ (neg_ℤ (y +ℤ z) *ℤ neg_ℤ l) ≡ neg_ℤ ((y *ℤ m) +ℤ (l *ℤ z))
falling_sum y l m z =
    omega (arith, ints, times_neg (m -ℤ l) y, times_comm (m -ℤ l) y, times_sum y m (neg_ℤ l), times_neg y l, neg_times_neg (y +ℤ z) l, times_comm (y +ℤ z) l, times_sum l y z, times_comm l y)

pub falling : (p a b : Pt) → p.x <ℤ a.x → p.x <ℤ b.x → p.y <ℤ a.y → b.y ≤ℤ p.y → turn a b p <ℤ pos 0
falling p a b h k from to =
    turned (b.x -ℤ a.x) (p.y -ℤ a.y) (b.y -ℤ a.y) (p.x -ℤ a.x) (a.y -ℤ p.y) (a.x -ℤ p.x) (b.x -ℤ p.x) (p.y -ℤ b.y) (omega (arith, ints)) (omega (arith, ints)) (omega (arith, ints)) (omega (arith, ints)) (omega (arith, ints)) (omega (arith, ints)) (omega (arith, ints)) (omega (arith, ints))
  where
    turned : (u w v x y l m z : ℤ) → u ≡ m -ℤ l → w ≡ neg_ℤ y → v ≡ neg_ℤ (y +ℤ z) → x ≡ neg_ℤ l → pos 0 <ℤ y → pos 0 ≤ℤ z → pos 0 <ℤ l → pos 0 <ℤ m → ((u *ℤ w) -ℤ (v *ℤ x)) <ℤ pos 0
    turned u w v x y l m z e f g k low high left right =
        rw (e, f, g, k, falling_sum y l m z) (omega (arith, ints, above y m low right, not_below l z (omega (arith, ints)) high))
