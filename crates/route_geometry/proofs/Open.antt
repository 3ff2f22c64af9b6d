-- Where no mixture of two forms is negative everywhere, both aren't negative somewhere: the ways turned.
use Rattle.std.proofs.Common.{◌≡◌, inl, inr, ℕ, ◌-◌, ℤ, pos, negsuc, ◌+ℤ◌, ◌*ℤ◌, neg_ℤ, ◌≤ℤ◌, ◌<ℤ◌, unsigned_abs, arith}
use Rattle.std.proofs.lemmas.Int.{ints, by_lt_z}
use Rattle.route_geometry.specs.Side.{Place}
use Rattle.route_geometry.proofs.Corners.{turned}
use Rattle.route_geometry.proofs.Trades.{AllNegative, Differ, IsOpen, Met, end_of_first, end_of_second, leg_up, leg_first}

gone_back : (a b : ℤ) → (a +ℤ b) +ℤ neg_ℤ b ≡ a
gone_back a b = omega (arith, ints)

other_order : (a b c : ℤ) → (a +ℤ c) +ℤ b ≡ (a +ℤ b) +ℤ c
other_order a b c = omega (arith, ints)

same_size : (a : ℤ) → unsigned_abs (neg_ℤ a) ≡ unsigned_abs a
same_size a = omega (arith, ints)

differ_back : (x y : ℤ) → Differ (neg_ℤ x) (neg_ℤ y) → Differ x y
differ_back x y (inl (h, k)) = inr (omega (arith, ints, h), omega (arith, ints, k))
differ_back x y (inr (h, k)) = inl (omega (arith, ints, h), omega (arith, ints, k))

-- the leg gone from its end
leg_back : (m n : ℕ) (a b c a' b' c' : ℤ) → AllNegative m n (a +ℤ b) (neg_ℤ b) c (a' +ℤ b') (neg_ℤ b') c' → AllNegative m n a b c a' b' c'
leg_back m n a b c a' b' c' h = record {
  at_start = rw (gone_back a b, gone_back a' b') at h.at_leg;
  at_leg = h.at_start;
  at_segment = rw (gone_back a b, gone_back a' b') at h.at_both;
  at_both = h.at_segment;
}

open_leg_turned : (a b c a' b' c' : ℤ) → IsOpen a b c a' b' c' → IsOpen (a +ℤ b) (neg_ℤ b) c (a' +ℤ b') (neg_ℤ b') c'
open_leg_turned a b c a' b' c' o = record {
  first = λ h. o.first (leg_back 1 0 a b c a' b' c' h);
  second = λ h. o.second (leg_back 0 1 a b c a' b' c' h);
  leg = λ q h. o.leg (differ_back b b' q) (leg_back _ _ a b c a' b' c' (rw (same_size b', same_size b) at h));
  segment = λ q h. o.segment q (leg_back _ _ a b c a' b' c' h);
}

-- the segment gone from its end
segment_back : (m n : ℕ) (a b c a' b' c' : ℤ) → AllNegative m n (a +ℤ c) b (neg_ℤ c) (a' +ℤ c') b' (neg_ℤ c') → AllNegative m n a b c a' b' c'
segment_back m n a b c a' b' c' h = record {
  at_start = rw (gone_back a c, gone_back a' c') at h.at_segment;
  at_leg = rw (other_order a b c, other_order a' b' c', gone_back (a +ℤ b) c, gone_back (a' +ℤ b') c') at h.at_both;
  at_segment = h.at_start;
  at_both = rw (other_order a b c, other_order a' b' c') at h.at_leg;
}

open_segment_turned : (a b c a' b' c' : ℤ) → IsOpen a b c a' b' c' → IsOpen (a +ℤ c) b (neg_ℤ c) (a' +ℤ c') b' (neg_ℤ c')
open_segment_turned a b c a' b' c' o = record {
  first = λ h. o.first (segment_back 1 0 a b c a' b' c' h);
  second = λ h. o.second (segment_back 0 1 a b c a' b' c' h);
  leg = λ q h. o.leg q (segment_back _ _ a b c a' b' c' h);
  segment = λ q h. o.segment (differ_back c c' q) (segment_back _ _ a b c a' b' c' (rw (same_size c', same_size c) at h));
}

-- leg and segment exchanged
exchanged_back : (m n : ℕ) (a b c a' b' c' : ℤ) → AllNegative m n a c b a' c' b' → AllNegative m n a b c a' b' c'
exchanged_back m n a b c a' b' c' h = record {
  at_start = h.at_start;
  at_leg = h.at_segment;
  at_segment = h.at_leg;
  at_both = rw (other_order a b c, other_order a' b' c') at h.at_both;
}

open_exchanged : (a b c a' b' c' : ℤ) → IsOpen a b c a' b' c' → IsOpen a c b a' c' b'
open_exchanged a b c a' b' c' o = record {
  first = λ h. o.first (exchanged_back 1 0 a b c a' b' c' h);
  second = λ h. o.second (exchanged_back 0 1 a b c a' b' c' h);
  leg = λ q h. o.segment q (exchanged_back _ _ a b c a' b' c' h);
  segment = λ q h. o.leg q (exchanged_back _ _ a b c a' b' c' h);
}

met_leg_turned : (a b c a' b' c' : ℤ) → Met (a +ℤ b) (neg_ℤ b) c (a' +ℤ b') (neg_ℤ b') c' → Met a b c a' b' c'
met_leg_turned a b c a' b' c' (p, first, second) =
    let on = p.on_leg in
    let q : Place = record { d = p.d; t = p.d - p.t; s = p.s; parts = p.parts; on_leg = omega arith; on_segment = p.on_segment } in
    (q, rw (turned p.d (p.d - p.t) p.t p.s a b c (omega (arith, on))) at first, rw (turned p.d (p.d - p.t) p.t p.s a' b' c' (omega (arith, on))) at second)

met_segment_turned : (a b c a' b' c' : ℤ) → Met (a +ℤ c) b (neg_ℤ c) (a' +ℤ c') b' (neg_ℤ c') → Met a b c a' b' c'
met_segment_turned a b c a' b' c' (p, first, second) =
    let on = p.on_segment in
    let q : Place = record { d = p.d; t = p.t; s = p.d - p.s; parts = p.parts; on_leg = p.on_leg; on_segment = omega arith } in
    let same = turned p.d (p.d - p.s) p.s p.t a c b (omega (arith, on)) in
    let same' = turned p.d (p.d - p.s) p.s p.t a' c' b' (omega (arith, on)) in
    (q, omega (arith, ints, first, same), omega (arith, ints, second, same'))

met_exchanged : (a b c a' b' c' : ℤ) → Met a c b a' c' b' → Met a b c a' b' c'
met_exchanged a b c a' b' c' (p, first, second) =
    let q : Place = record { d = p.d; t = p.s; s = p.t; parts = p.parts; on_leg = p.on_segment; on_segment = p.on_leg } in
    (q, omega (arith, ints, first), omega (arith, ints, second))

up_and_down : (b c b' c' : ℤ) → pos 0 ≤ℤ b → pos 0 ≤ℤ c → pos 0 ≤ℤ b' → c' <ℤ pos 0 → (b *ℤ c') ≤ℤ (c *ℤ b')
up_and_down (negsuc n) c b' c' p q h k = absurd (omega (arith, ints, p))
up_and_down (pos n) (negsuc m) b' c' p q h k = absurd (omega (arith, ints, q))
up_and_down (pos n) (pos m) (negsuc i) c' p q h k = absurd (omega (arith, ints, h))
up_and_down (pos n) (pos m) (pos i) (pos j) p q h k = absurd (omega (arith, ints, k))
up_and_down (pos n) (pos m) (pos i) (negsuc j) p q h k = omega (arith, ints)

both_rise : (a b c a' b' c' : ℤ) → pos 0 ≤ℤ b → pos 0 ≤ℤ c → IsOpen a b c a' b' c' → Met a b c a' b' c'
both_rise a b c a' b' c' p q o =
    by_lt_z b' (pos 0)
    (λ leg_falls. by_lt_z c' (pos 0)
    (λ segment_falls. by_lt_z (c *ℤ b') (b *ℤ c')
    (λ dear. met_exchanged a b c a' b' c' (leg_first a c b a' c' b' q p segment_falls leg_falls (omega (arith, ints, dear)) (open_exchanged a b c a' b' c' o)))
    (λ cheap. leg_first a b c a' b' c' p q leg_falls segment_falls cheap o))
    (λ segment_rises. met_exchanged a b c a' b' c' (leg_up a c b a' c' b' q p segment_rises leg_falls (up_and_down c b c' b' q p segment_rises leg_falls) (open_exchanged a b c a' b' c' o))))
    (λ leg_rises. by_lt_z c' (pos 0)
    (λ segment_falls. leg_up a b c a' b' c' p q leg_rises segment_falls (up_and_down b c b' c' p q leg_rises segment_falls) o)
    (λ segment_rises.
    let ends : Place = record { d = 1; t = 1; s = 1; parts = omega arith; on_leg = omega arith; on_segment = omega arith } in
    (ends, omega (arith, ints, end_of_first a b c a' b' c' p q o.first), omega (arith, ints, end_of_second a b c a' b' c' leg_rises segment_rises o.second))))

leg_rises : (a b c a' b' c' : ℤ) → pos 0 ≤ℤ b → IsOpen a b c a' b' c' → Met a b c a' b' c'
leg_rises a b c a' b' c' p o =
    by_lt_z c (pos 0)
    (λ low. met_segment_turned a b c a' b' c' (both_rise (a +ℤ c) b (neg_ℤ c) (a' +ℤ c') b' (neg_ℤ c') p (omega (arith, ints, low)) (open_segment_turned a b c a' b' c' o)))
    (λ high. both_rise a b c a' b' c' p high o)

-- both forms aren't negative at some place
pub met_of_open : (a b c a' b' c' : ℤ) → IsOpen a b c a' b' c' → Met a b c a' b' c'
met_of_open a b c a' b' c' o =
    by_lt_z b (pos 0)
    (λ low. met_leg_turned a b c a' b' c' (leg_rises (a +ℤ b) (neg_ℤ b) c (a' +ℤ b') (neg_ℤ b') c' (omega (arith, ints, low)) (open_leg_turned a b c a' b' c' o)))
    (λ high. leg_rises a b c a' b' c' high o)
