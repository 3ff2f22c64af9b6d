-- Where no mixture of two forms is negative everywhere, both aren't negative somewhere.
use Rattle.std.proofs.Common.{◌⊎◌, inr, ℕ, ℤ, pos, negsuc, suc, ◌+ℤ◌, ◌*ℤ◌, ◌≤ℤ◌, ◌<ℤ◌, unsigned_abs, arith}
use Rattle.std.proofs.lemmas.Int.{ints, by_lt_z}
use Rattle.plane_geometry.proofs.Integers.{times_sum, times_neg, times_comm}
use Rattle.route_geometry.specs.Side.{Place}
use Rattle.route_geometry.proofs.Forms.{form}
use Rattle.route_geometry.proofs.Slopes.{Crossing, crossing}

-- m of one number and n of another
abbrev pub mix : ℕ → ℕ → ℤ → ℤ → ℤ
mix m n a a' = (pos m *ℤ a) +ℤ (pos n *ℤ a')

-- a mixture of two forms is negative at both ends of both ways
pub record AllNegative (m n : ℕ) (a b c a' b' c' : ℤ) : Type 0 where
  pub at_start : mix m n a a' <ℤ pos 0
  pub at_leg : mix m n (a +ℤ b) (a' +ℤ b') <ℤ pos 0
  pub at_segment : mix m n (a +ℤ c) (a' +ℤ c') <ℤ pos 0
  pub at_both : mix m n ((a +ℤ b) +ℤ c) ((a' +ℤ b') +ℤ c') <ℤ pos 0

-- two numbers of different signs
abbrev pub Differ : ℤ → ℤ → Type 0
Differ x y = ((x <ℤ pos 0) × (pos 0 <ℤ y)) ⊎ ((pos 0 <ℤ x) × (y <ℤ pos 0))

-- neither form is negative everywhere, nor the mixtures that the leg, or the segment, doesn't change
pub record IsOpen (a b c a' b' c' : ℤ) : Type 0 where
  pub first : ¬ AllNegative 1 0 a b c a' b' c'
  pub second : ¬ AllNegative 0 1 a b c a' b' c'
  pub leg : Differ b b' → ¬ AllNegative (unsigned_abs b') (unsigned_abs b) a b c a' b' c'
  pub segment : Differ c c' → ¬ AllNegative (unsigned_abs c') (unsigned_abs c) a b c a' b' c'

-- both forms aren't negative at some place
abbrev pub Met : ℤ → ℤ → ℤ → ℤ → ℤ → ℤ → Type 0
Met a b c a' b' c' = (p : Place) × (pos 0 ≤ℤ form p.d p.t p.s a b c) × (pos 0 ≤ℤ form p.d p.t p.s a' b' c')

-- what isn't negative at both ends of both ways, where both ways lead up
pub end_of_first : (a b c a' b' c' : ℤ) → pos 0 ≤ℤ b → pos 0 ≤ℤ c → ¬ AllNegative 1 0 a b c a' b' c' → pos 0 ≤ℤ ((a +ℤ b) +ℤ c)
end_of_first a b c a' b' c' p q h =
    by_lt_z ((a +ℤ b) +ℤ c) (pos 0)
    (λ low. absurd (h (record { at_start = omega (arith, ints, low, p, q); at_leg = omega (arith, ints, low, p, q); at_segment = omega (arith, ints, low, p, q); at_both = omega (arith, ints, low, p, q) })))
    (λ high. high)

pub end_of_second : (a b c a' b' c' : ℤ) → pos 0 ≤ℤ b' → pos 0 ≤ℤ c' → ¬ AllNegative 0 1 a b c a' b' c' → pos 0 ≤ℤ ((a' +ℤ b') +ℤ c')
end_of_second a b c a' b' c' p q h =
    by_lt_z ((a' +ℤ b') +ℤ c') (pos 0)
    (λ low. absurd (h (record { at_start = omega (arith, ints, low, p, q); at_leg = omega (arith, ints, low, p, q); at_segment = omega (arith, ints, low, p, q); at_both = omega (arith, ints, low, p, q) })))
    (λ high. high)

leg_end_of_second : (a b c a' b' c' : ℤ) → pos 0 ≤ℤ b' → c' <ℤ pos 0 → ¬ AllNegative 0 1 a b c a' b' c' → pos 0 ≤ℤ (a' +ℤ b')
leg_end_of_second a b c a' b' c' p q h =
    by_lt_z (a' +ℤ b') (pos 0)
    (λ low. absurd (h (record { at_start = omega (arith, ints, low, p, q); at_leg = omega (arith, ints, low, p, q); at_segment = omega (arith, ints, low, p, q); at_both = omega (arith, ints, low, p, q) })))
    (λ high. high)

start_of_second : (a b c a' b' c' : ℤ) → b' <ℤ pos 0 → c' <ℤ pos 0 → ¬ AllNegative 0 1 a b c a' b' c' → pos 0 ≤ℤ a'
start_of_second a b c a' b' c' p q h =
    by_lt_z a' (pos 0)
    (λ low. absurd (h (record { at_start = omega (arith, ints, low, p, q); at_leg = omega (arith, ints, low, p, q); at_segment = omega (arith, ints, low, p, q); at_both = omega (arith, ints, low, p, q) })))
    (λ high. high)

at_whole_leg : (a b c a' b' c' : ℤ) → Crossing (a +ℤ b) c (a' +ℤ b') c' → Met a b c a' b' c'
at_whole_leg a b c a' b' c' (p, first, second) =
    let q : Place = record { d = p.d; t = p.d; s = p.t; parts = p.parts; on_leg = omega arith; on_segment = p.on_the_way } in
    (q, omega (arith, ints, first, times_sum (pos p.d) a b), omega (arith, ints, second, times_sum (pos p.d) a' b'))

on_the_leg : (a b c a' b' c' : ℤ) → Crossing a b a' b' → Met a b c a' b' c'
on_the_leg a b c a' b' c' (p, first, second) =
    let q : Place = record { d = p.d; t = p.t; s = 0; parts = p.parts; on_leg = p.on_the_way; on_segment = omega arith } in
    (q, omega (arith, ints, first), omega (arith, ints, second))

-- what the mixture that the segment doesn't change leaves after the whole leg
segment_kept : (a b c a' b' c' : ℤ) → pos 0 <ℤ c → c' <ℤ pos 0 → (b *ℤ c') ≤ℤ (c *ℤ b') → (Differ c c' → ¬ AllNegative (unsigned_abs c') (unsigned_abs c) a b c a' b' c') → ((a +ℤ b) *ℤ c') ≤ℤ (c *ℤ (a' +ℤ b'))
segment_kept a b c a' b' (pos k) up down order h = absurd (omega (arith, ints, down))
segment_kept a b (negsuc n) a' b' c' up down order h = absurd (omega (arith, ints, up))
segment_kept a b (pos n) a' b' (negsuc k) up down order h =
    by_lt_z (pos n *ℤ (a' +ℤ b')) ((a +ℤ b) *ℤ negsuc k)
    (λ low. absurd (h (inr (up, down)) (
    let leg : mix (suc k) n (a +ℤ b) (a' +ℤ b') <ℤ pos 0 = omega (arith, ints, low, times_comm (a +ℤ b) (negsuc k), times_neg (pos (suc k)) (a +ℤ b)) in
    let first = times_sum (pos (suc k)) a b in
    let second = times_sum (pos n) a' b' in
    record {
      at_start = omega (arith, ints, leg, first, second, order);
      at_leg = leg;
      at_segment = omega (arith, ints, leg, first, second, order, times_sum (pos (suc k)) a (pos n), times_sum (pos n) a' (negsuc k));
      at_both = omega (arith, ints, leg, times_sum (pos (suc k)) (a +ℤ b) (pos n), times_sum (pos n) (a' +ℤ b') (negsuc k));
    })))
    (λ high. high)

-- what the mixture that the leg doesn't change leaves before the segment
leg_kept : (a b c a' b' c' : ℤ) → pos 0 <ℤ b → b' <ℤ pos 0 → (b *ℤ c') ≤ℤ (c *ℤ b') → (Differ b b' → ¬ AllNegative (unsigned_abs b') (unsigned_abs b) a b c a' b' c') → (a *ℤ b') ≤ℤ (b *ℤ a')
leg_kept a b c a' (pos k) c' up down order h = absurd (omega (arith, ints, down))
leg_kept a (negsuc n) c a' b' c' up down order h = absurd (omega (arith, ints, up))
leg_kept a (pos n) c a' (negsuc k) c' up down order h =
    by_lt_z (pos n *ℤ a') (a *ℤ negsuc k)
    (λ low. absurd (h (inr (up, down)) (
    let start : mix (suc k) n a a' <ℤ pos 0 = omega (arith, ints, low) in
    let first = times_sum (pos (suc k)) a (pos n) in
    let second = times_sum (pos n) a' (negsuc k) in
    record {
      at_start = start;
      at_leg = omega (arith, ints, start, first, second);
      at_segment = omega (arith, ints, start, order, times_sum (pos (suc k)) a c, times_sum (pos n) a' c');
      at_both = omega (arith, ints, start, order, first, second, times_sum (pos (suc k)) (a +ℤ pos n) c, times_sum (pos n) (a' +ℤ negsuc k) c');
    })))
    (λ high. high)

-- the leg leads up in both forms, the segment up in one and down in the other
pub leg_up : (a b c a' b' c' : ℤ) → pos 0 ≤ℤ b → pos 0 ≤ℤ c → pos 0 ≤ℤ b' → c' <ℤ pos 0 → (b *ℤ c') ≤ℤ (c *ℤ b') → IsOpen a b c a' b' c' → Met a b c a' b' c'
leg_up a b c a' b' c' p q p' q' order o =
    let end = end_of_first a b c a' b' c' p q o.first in
    by_lt_z (a +ℤ b) (pos 0)
    (λ low. at_whole_leg a b c a' b' c' (crossing (a +ℤ b) c (a' +ℤ b') c' low end (segment_kept a b c a' b' c' (omega (arith, ints, low, end)) q' order o.segment)))
    (λ high.
    let leg : Place = record { d = 1; t = 1; s = 0; parts = omega arith; on_leg = omega arith; on_segment = omega arith } in
    (leg, omega (arith, ints, high), omega (arith, ints, leg_end_of_second a b c a' b' c' p' q' o.second)))

-- both ways lead up in one form and down in the other, the leg at no more cost
pub leg_first : (a b c a' b' c' : ℤ) → pos 0 ≤ℤ b → pos 0 ≤ℤ c → b' <ℤ pos 0 → c' <ℤ pos 0 → (b *ℤ c') ≤ℤ (c *ℤ b') → IsOpen a b c a' b' c' → Met a b c a' b' c'
leg_first a b c a' b' c' p q p' q' order o =
    let end = end_of_first a b c a' b' c' p q o.first in
    by_lt_z (a +ℤ b) (pos 0)
    (λ low. at_whole_leg a b c a' b' c' (crossing (a +ℤ b) c (a' +ℤ b') c' low end (segment_kept a b c a' b' c' (omega (arith, ints, low, end)) q' order o.segment)))
    (λ high. by_lt_z a (pos 0)
    (λ below. on_the_leg a b c a' b' c' (crossing a b a' b' below high (leg_kept a b c a' b' c' (omega (arith, ints, below, high)) p' order o.leg)))
    (λ above.
    let none : Place = record { d = 1; t = 0; s = 0; parts = omega arith; on_leg = omega arith; on_segment = omega arith } in
    (none, omega (arith, ints, above), omega (arith, ints, start_of_second a b c a' b' c' p' q' o.second))))
