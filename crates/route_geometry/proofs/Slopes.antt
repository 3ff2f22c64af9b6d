-- Two sides along one way.
use Rattle.std.proofs.Common.{ℕ, ◌≤◌, ℤ, pos, negsuc, suc, zero, ◌+ℤ◌, ◌*ℤ◌, ◌≤ℤ◌, ◌<ℤ◌, arith}
use Rattle.std.proofs.lemmas.Int.{ints}
use Rattle.route_geometry.specs.declared.slope.Slope.{Slope}
use Rattle.route_geometry.specs.Slope.{Part, IsOver, BothReached}
use Rattle.route_geometry.proofs.Forms.{form, at_start, at_leg_end, mixed}

-- a part of a way, with no other way gone
pub alone : (d t : ℕ) (a b : ℤ) → pos 0 ≤ℤ ((pos d *ℤ a) +ℤ (pos t *ℤ b)) → pos 0 ≤ℤ form d t 0 a b (pos 0)
alone d t a b h = omega (arith, ints)

-- both are reached where the way begins
pub reached_at_start : (f g : Slope) → pos 0 ≤ℤ f.start → pos 0 ≤ℤ g.start → BothReached f g
reached_at_start f g h k =
    let p : Part = record { d = 1; t = 0; parts = omega arith; on_the_way = omega arith } in
    (p, omega (arith, ints), omega (arith, ints))

-- both are reached where the way ends
pub reached_at_end : (f g : Slope) → pos 0 ≤ℤ (f.start +ℤ f.step) → pos 0 ≤ℤ (g.start +ℤ g.step) → BothReached f g
reached_at_end f g h k =
    let p : Part = record { d = 1; t = 1; parts = omega arith; on_the_way = omega arith } in
    (p, omega (arith, ints), omega (arith, ints))

-- where the first side is first reached
abbrev pub Crossing : ℤ → ℤ → ℤ → ℤ → Type 0
Crossing a b a' b' = (p : Part) × (pos 0 ≤ℤ ((pos p.d *ℤ a) +ℤ (pos p.t *ℤ b))) × (pos 0 ≤ℤ ((pos p.d *ℤ a') +ℤ (pos p.t *ℤ b')))

pub crossing : (a b a' b' : ℤ) → a <ℤ pos 0 → pos 0 ≤ℤ (a +ℤ b) → (a *ℤ b') ≤ℤ (b *ℤ a') → Crossing a b a' b'
crossing (pos n) b a' b' low end h = absurd (omega (arith, ints, low))
crossing (negsuc m) (pos zero) a' b' low end h = absurd (omega (arith, ints, end))
crossing (negsuc m) (pos (suc n)) a' b' low end h =
    let p : Part = record { d = suc n; t = suc m; parts = omega arith; on_the_way = omega (arith, ints, end) } in
    (p, omega (arith, ints), omega (arith, ints, h))
crossing (negsuc m) (negsuc n) a' b' low end h = absurd (omega (arith, ints, end))

pub reached_at_crossing : (f g : Slope) → f.start <ℤ pos 0 → pos 0 ≤ℤ (f.start +ℤ f.step) → (f.start *ℤ g.step) ≤ℤ (f.step *ℤ g.start) → BothReached f g
reached_at_crossing f g low end h = crossing f.start f.step g.start g.step low end h

-- where both are reached and the second falls, it isn't negative where the way begins
pub start_of_falling : (f g : Slope) → g.step <ℤ pos 0 → BothReached f g → pos 0 ≤ℤ g.start
start_of_falling f g falls (p, _, over) =
    at_start p.d p.t 0 g.start g.step (pos 0) p.parts (omega (arith, ints, falls)) (omega (arith, ints)) (alone p.d p.t g.start g.step over)

-- where a side is reached that rises, it is reached where the way ends
pub end_of_rising : (f : Slope) (p : Part) → pos 0 ≤ℤ f.step → IsOver p f → pos 0 ≤ℤ (f.start +ℤ f.step)
end_of_rising f p rises over =
    at_leg_end p.d p.t 0 f.start f.step (pos 0) p.parts p.on_the_way rises (omega (arith, ints)) (alone p.d p.t f.start f.step over)

crossed : (d t : ℕ) (a b a' b' : ℤ) → 1 ≤ d → pos 0 ≤ℤ b → b' <ℤ pos 0 → pos 0 ≤ℤ form d t 0 a b (pos 0) → pos 0 ≤ℤ form d t 0 a' b' (pos 0) → (a *ℤ b') ≤ℤ (b *ℤ a')
crossed d t a b a' (pos k) h rises falls p q = absurd (omega (arith, ints, falls))
crossed d t a (negsuc n) a' b' h rises falls p q = absurd (omega (arith, ints, rises))
crossed d t a (pos n) a' (negsuc k) h rises falls p q =
    let sum = mixed (suc k) n d t 0 a (pos n) (pos 0) a' (negsuc k) (pos 0) p q in
    let start = at_start d t 0 ((pos (suc k) *ℤ a) +ℤ (pos n *ℤ a')) ((pos (suc k) *ℤ pos n) +ℤ (pos n *ℤ negsuc k)) ((pos (suc k) *ℤ pos 0) +ℤ (pos n *ℤ pos 0)) h (omega (arith, ints)) (omega (arith, ints)) sum in
    omega (arith, ints, start)

-- where both are reached, the second is reached where the first is crossed
pub before_crossing : (f g : Slope) → pos 0 ≤ℤ f.step → g.step <ℤ pos 0 → BothReached f g → (f.start *ℤ g.step) ≤ℤ (f.step *ℤ g.start)
before_crossing f g rises falls (p, over_f, over_g) =
    crossed p.d p.t f.start f.step g.start g.step p.parts rises falls (alone p.d p.t f.start f.step over_f) (alone p.d p.t g.start g.step over_g)
