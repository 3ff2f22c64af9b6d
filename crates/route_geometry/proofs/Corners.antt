-- A place within two sides.
use Rattle.std.proofs.Common.{◌≡◌, ℕ, ◌+◌, ◌-◌, ◌≤◌, ℤ, pos, negsuc, suc, ◌+ℤ◌, ◌*ℤ◌, neg_ℤ, ◌≤ℤ◌, ◌<ℤ◌, refl, arith}
use Rattle.std.proofs.lemmas.Int.{ints, by_lt_z}
use Rattle.plane_geometry.proofs.Integers.{times_sum, times_neg, times_comm, fewer_le}
use Rattle.route_geometry.specs.declared.slope.Slope.{Slope}
use Rattle.route_geometry.specs.declared.side.Side.{Side}
use Rattle.route_geometry.specs.Slope.{Part, IsOver, BothReached}
use Rattle.route_geometry.specs.Side.{Place, IsWithin, BothMet, IsLegTurned, IsSegmentTurned, IsExchanged}
use Rattle.route_geometry.proofs.Forms.{form, at_start, at_leg_end, at_end, mixed}
use Rattle.route_geometry.proofs.Slopes.{reached_at_start, reached_at_crossing}

-- the leg or the segment gone from its end
from_end : (t n : ℕ) (b : ℤ) → pos (t + n) *ℤ b ≡ (pos t *ℤ b) +ℤ (pos n *ℤ b)
from_end t n b = omega (arith, ints)

pub turned : (d t n s : ℕ) (a b c : ℤ) → t + n ≡ d → form d n s (a +ℤ b) (neg_ℤ b) c ≡ form d t s a b c
turned d t n s a b c e =
    let whole : pos d *ℤ b ≡ pos (t + n) *ℤ b = rw e refl in
    omega (arith, ints, whole, from_end t n b, times_sum (pos d) a b, times_neg (pos n) b)

-- the same place, with the leg gone from its end
leg_turned_place : (f g : Side) (p : Place) → IsLegTurned f g → IsWithin p f → pos 0 ≤ℤ form p.d (p.d - p.t) p.s g.start g.leg g.segment
leg_turned_place f g p e h =
    let on = p.on_leg in
    rw (e.start, e.leg, e.segment, turned p.d p.t (p.d - p.t) p.s f.start f.leg f.segment (omega (arith, on))) h

segment_turned_place : (f g : Side) (p : Place) → IsSegmentTurned f g → IsWithin p f → pos 0 ≤ℤ form p.d p.t (p.d - p.s) g.start g.leg g.segment
segment_turned_place f g p e h =
    let on = p.on_segment in
    let same = turned p.d p.s (p.d - p.s) p.t f.start f.segment f.leg (omega (arith, on)) in
    rw (e.start, e.leg, e.segment) (omega (arith, ints, same, h))

-- sides that are both turned are met where they were
pub leg_turned_met : (f g f' g' : Side) → IsLegTurned f f' → IsLegTurned g g' → BothMet f g → BothMet f' g'
leg_turned_met f g f' g' e k (p, first, second) =
    let q : Place = record { d = p.d; t = p.d - p.t; s = p.s; parts = p.parts; on_leg = omega arith; on_segment = p.on_segment } in
    (q, leg_turned_place f f' p e first, leg_turned_place g g' p k second)

pub segment_turned_met : (f g f' g' : Side) → IsSegmentTurned f f' → IsSegmentTurned g g' → BothMet f g → BothMet f' g'
segment_turned_met f g f' g' e k (p, first, second) =
    let q : Place = record { d = p.d; t = p.t; s = p.d - p.s; parts = p.parts; on_leg = p.on_leg; on_segment = omega arith } in
    (q, segment_turned_place f f' p e first, segment_turned_place g g' p k second)

pub exchanged_met : (f g f' g' : Side) → IsExchanged f f' → IsExchanged g g' → BothMet f g → BothMet f' g'
exchanged_met f g f' g' e k (p, first, second) =
    let q : Place = record { d = p.d; t = p.s; s = p.t; parts = p.parts; on_leg = p.on_segment; on_segment = p.on_leg } in
    (q, exchanged_place f f' p e first, exchanged_place g g' p k second)
  where
    exchanged_place : (f g : Side) (p : Place) → IsExchanged f g → IsWithin p f → pos 0 ≤ℤ form p.d p.s p.t g.start g.leg g.segment
    exchanged_place f g p e h = rw (e.start, e.leg, e.segment) (omega (arith, ints, h))

-- what is turned or exchanged twice is as it was
pub leg_turned_back : (f g : Side) → IsLegTurned f g → IsLegTurned g f
leg_turned_back f g e = record { start = omega (arith, ints, e.start, e.leg); leg = omega (arith, ints, e.leg); segment = omega (arith, ints, e.segment) }

pub segment_turned_back : (f g : Side) → IsSegmentTurned f g → IsSegmentTurned g f
segment_turned_back f g e = record { start = omega (arith, ints, e.start, e.segment); leg = omega (arith, ints, e.leg); segment = omega (arith, ints, e.segment) }

pub exchanged_back : (f g : Side) → IsExchanged f g → IsExchanged g f
exchanged_back f g e = record { start = omega (arith, ints, e.start); leg = omega (arith, ints, e.segment); segment = omega (arith, ints, e.leg) }

-- r is f along the leg, at the segment's beginning
pub record IsAlongLeg (f : Side) (r : Slope) : Type 0 where
  pub start : r.start ≡ f.start
  pub step : r.step ≡ f.leg

-- r is f along the segment, at the leg's end
pub record IsAlongSegment (f : Side) (r : Slope) : Type 0 where
  pub start : r.start ≡ f.start +ℤ f.leg
  pub step : r.step ≡ f.segment

-- what is reached along the leg is met
pub met_along_leg : (f g : Side) (r q : Slope) → IsAlongLeg f r → IsAlongLeg g q → BothReached r q → BothMet f g
met_along_leg f g r q e k (p, first, second) =
    let place : Place = record { d = p.d; t = p.t; s = 0; parts = p.parts; on_leg = p.on_the_way; on_segment = omega arith } in
    (place, within f r p e first, within g q p k second)
  where
    within : (f : Side) (r : Slope) (p : Part) → IsAlongLeg f r → IsOver p r → pos 0 ≤ℤ form p.d p.t 0 f.start f.leg f.segment
    within f r p e h =
        let over = rw (e.start, e.step) at h in
        omega (arith, ints, over)

-- what is reached along the segment is met
pub met_along_segment : (f g : Side) (r q : Slope) → IsAlongSegment f r → IsAlongSegment g q → BothReached r q → BothMet f g
met_along_segment f g r q e k (p, first, second) =
    let place : Place = record { d = p.d; t = p.d; s = p.t; parts = p.parts; on_leg = omega arith; on_segment = p.on_the_way } in
    (place, within f r p e first, within g q p k second)
  where
    within : (f : Side) (r : Slope) (p : Part) → IsAlongSegment f r → IsOver p r → pos 0 ≤ℤ form p.d p.d p.t f.start f.leg f.segment
    within f r p e h =
        let over = rw (e.start, e.step) at h in
        omega (arith, ints, over, times_sum (pos p.d) f.start f.leg)

-- where the leg leads into both, what is met is reached from its end
pub reached_from_leg_end : (f g : Side) (r q : Slope) → IsAlongSegment f r → IsAlongSegment g q → pos 0 ≤ℤ f.leg → pos 0 ≤ℤ g.leg → BothMet f g → BothReached r q
reached_from_leg_end f g r q e k rises rises' (p, first, second) =
    let part : Part = record { d = p.d; t = p.s; parts = p.parts; on_the_way = p.on_segment } in
    (part, over f r p e rises first, over g q p k rises' second)
  where
    over : (f : Side) (r : Slope) (p : Place) → IsAlongSegment f r → pos 0 ≤ℤ f.leg → IsWithin p f → pos 0 ≤ℤ ((pos p.d *ℤ r.start) +ℤ (pos p.s *ℤ r.step))
    over f r p e rises h =
        let more = fewer_le p.t p.d f.leg p.on_leg rises in
        rw (e.start, e.step) (omega (arith, ints, h, more, times_sum (pos p.d) f.start f.leg))

-- where the leg takes no more than the segment, what its crossing leaves of the second side
leg_trade : (d t s : ℕ) (a b c a' b' c' : ℤ) → 1 ≤ d → pos 0 ≤ℤ b → b' <ℤ pos 0 → (b *ℤ c') ≤ℤ (c *ℤ b') → pos 0 ≤ℤ form d t s a b c → pos 0 ≤ℤ form d t s a' b' c' → (a *ℤ b') ≤ℤ (b *ℤ a')
leg_trade d t s a b c a' (pos k) c' h rises falls cheaper p q = absurd (omega (arith, ints, falls))
leg_trade d t s a (negsuc n) c a' b' c' h rises falls cheaper p q = absurd (omega (arith, ints, rises))
leg_trade d t s a (pos n) c a' (negsuc k) c' h rises falls cheaper p q =
    let sum = mixed (suc k) n d t s a (pos n) c a' (negsuc k) c' p q in
    let start = at_start d t s ((pos (suc k) *ℤ a) +ℤ (pos n *ℤ a')) ((pos (suc k) *ℤ pos n) +ℤ (pos n *ℤ negsuc k)) ((pos (suc k) *ℤ c) +ℤ (pos n *ℤ c')) h (omega (arith, ints)) (omega (arith, ints, cheaper)) sum in
    omega (arith, ints, start)

-- and what the segment's crossing leaves of it after the whole leg
segment_trade : (d t s : ℕ) (a b c a' b' c' : ℤ) → 1 ≤ d → t ≤ d → pos 0 ≤ℤ c → c' <ℤ pos 0 → (b *ℤ c') ≤ℤ (c *ℤ b') → pos 0 ≤ℤ form d t s a b c → pos 0 ≤ℤ form d t s a' b' c' → ((a +ℤ b) *ℤ c') ≤ℤ (c *ℤ (a' +ℤ b'))
segment_trade d t s a b c a' b' (pos k) h on rises falls cheaper p q = absurd (omega (arith, ints, falls))
segment_trade d t s a b (negsuc n) a' b' c' h on rises falls cheaper p q = absurd (omega (arith, ints, rises))
segment_trade d t s a b (pos n) a' b' (negsuc k) h on rises falls cheaper p q =
    let sum = mixed (suc k) n d t s a b (pos n) a' b' (negsuc k) p q in
    let end = at_leg_end d t s ((pos (suc k) *ℤ a) +ℤ (pos n *ℤ a')) ((pos (suc k) *ℤ b) +ℤ (pos n *ℤ b')) ((pos (suc k) *ℤ pos n) +ℤ (pos n *ℤ negsuc k)) h on (omega (arith, ints, cheaper)) (omega (arith, ints)) sum in
    omega (arith, ints, end, times_sum (pos n) a' b', times_comm (a +ℤ b) (negsuc k), times_sum (negsuc k) a b)

-- two sides of which both ways lead into the first and out of the second, the leg at no more cost
pub record IsLegFirst (f g : Side) : Type 0 where
  pub leg : pos 0 ≤ℤ f.leg
  pub segment : pos 0 ≤ℤ f.segment
  pub leg_falls : g.leg <ℤ pos 0
  pub segment_falls : g.segment <ℤ pos 0
  pub cheaper : (f.leg *ℤ g.segment) ≤ℤ (f.segment *ℤ g.leg)

-- what is met is reached along the leg, where the first side is
pub reached_along_leg : (f g : Side) (r q : Slope) → IsAlongLeg f r → IsAlongLeg g q → IsLegFirst f g → pos 0 ≤ℤ (f.start +ℤ f.leg) → BothMet f g → BothReached r q
reached_along_leg f g r q e k order reached (p, first, second) =
    by_lt_z f.start (pos 0)
    (λ low. reached_at_crossing r q (omega (arith, ints, e.start, low)) (omega (arith, ints, e.start, e.step, reached)) (rw (e.start, e.step, k.start, k.step) (leg_trade p.d p.t p.s f.start f.leg f.segment g.start g.leg g.segment p.parts order.leg order.leg_falls order.cheaper first second)))
    (λ high. reached_at_start r q (omega (arith, ints, e.start, high)) (omega (arith, ints, k.start, at_start p.d p.t p.s g.start g.leg g.segment p.parts (omega (arith, ints, order.leg_falls)) (omega (arith, ints, order.segment_falls)) second)))

-- else along the segment, at the leg's end
pub reached_along_segment : (f g : Side) (r q : Slope) → IsAlongSegment f r → IsAlongSegment g q → IsLegFirst f g → (f.start +ℤ f.leg) <ℤ pos 0 → BothMet f g → BothReached r q
reached_along_segment f g r q e k order short (p, first, second) =
    let end = at_end p.d p.t p.s f.start f.leg f.segment p.parts p.on_leg p.on_segment order.leg order.segment first in
    let trade = segment_trade p.d p.t p.s f.start f.leg f.segment g.start g.leg g.segment p.parts p.on_leg order.segment order.segment_falls order.cheaper first second in
    reached_at_crossing r q (omega (arith, ints, e.start, short)) (omega (arith, ints, e.start, e.step, end)) (rw (e.start, e.step, k.start, k.step) trade)
