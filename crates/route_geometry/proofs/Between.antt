-- A place between two others.
use Rattle.std.proofs.Common.{◌≡◌, ℕ, ◌+◌, ◌*◌, ℤ, pos, negsuc, suc, ◌+ℤ◌, ◌*ℤ◌, neg_ℤ, ◌≤ℤ◌, ◌<ℤ◌, refl, arith}
use Rattle.std.proofs.Math.Nat.{mul-le-mul_left}
use Rattle.std.proofs.lemmas.Int.{ints, by_lt_z}
use Rattle.plane_geometry.proofs.Integers.{times_sum, times_neg, scale_le}
use Rattle.route_geometry.specs.declared.side.Side.{Side}
use Rattle.route_geometry.specs.declared.band.Band.{Band}
use Rattle.route_geometry.specs.Side.{Place, BothMet, IsOpposite}
use Rattle.route_geometry.specs.Band.{SideMeetsBand, BandsMeet}
use Rattle.route_geometry.proofs.Forms.{form}

-- a form of two ways, of any size
pub record Form : Type 0 where
  pub start : ℤ
  pub leg : ℤ
  pub segment : ℤ

-- a form's value at a place
abbrev pub value : Form → Place → ℤ
value f p = form p.d p.t p.s f.start f.leg f.segment

abbrev pub IsIn : Place → Form → Type 0
IsIn p f = pos 0 ≤ℤ value f p

-- two forms whose sum is the same everywhere and not negative
pub record IsOpposed (f g : Form) : Type 0 where
  pub start : pos 0 ≤ℤ (f.start +ℤ g.start)
  pub leg : g.leg ≡ neg_ℤ f.leg
  pub segment : g.segment ≡ neg_ℤ f.segment

times_times : (m d : ℕ) (a : ℤ) → pos (m * d) *ℤ a ≡ pos m *ℤ (pos d *ℤ a)
times_times m d (pos k) = omega (arith, ints)
times_times m d (negsuc k) = omega (arith, ints, times_neg (pos m) (pos d *ℤ pos (suc k)), times_neg (pos d) (pos (suc k)))

sum_times : (m n : ℕ) (a : ℤ) → pos (m + n) *ℤ a ≡ (pos m *ℤ a) +ℤ (pos n *ℤ a)
sum_times m n a = omega (arith, ints)

combined : (m n d e : ℕ) (a : ℤ) → pos ((m * d) + (n * e)) *ℤ a ≡ (pos m *ℤ (pos d *ℤ a)) +ℤ (pos n *ℤ (pos e *ℤ a))
combined m n d e a = omega (arith, ints, sum_times (m * d) (n * e) a, times_times m d a, times_times n e a)

-- m of one place and n of another
mix : (m n : ℕ) (p q : Place) → Place
mix m n p q = record {
  d = (suc m * p.d) + (n * q.d);
  t = (suc m * p.t) + (n * q.t);
  s = (suc m * p.s) + (n * q.s);
  parts = omega (arith, p.parts, mul-le-mul_left (suc m) p.parts);
  on_leg = omega (arith, mul-le-mul_left (suc m) p.on_leg, mul-le-mul_left n q.on_leg);
  on_segment = omega (arith, mul-le-mul_left (suc m) p.on_segment, mul-le-mul_left n q.on_segment);
}

value_of_mix : (f : Form) (m n : ℕ) (p q : Place) → value f (mix m n p q) ≡ (pos (suc m) *ℤ value f p) +ℤ (pos n *ℤ value f q)
unfolding mix
value_of_mix f m n p q =
    omega (arith, ints, times_sum (pos (suc m)) ((pos p.d *ℤ f.start) +ℤ (pos p.t *ℤ f.leg)) (pos p.s *ℤ f.segment), times_sum (pos (suc m)) (pos p.d *ℤ f.start) (pos p.t *ℤ f.leg), times_sum (pos n) ((pos q.d *ℤ f.start) +ℤ (pos q.t *ℤ f.leg)) (pos q.s *ℤ f.segment), times_sum (pos n) (pos q.d *ℤ f.start) (pos q.t *ℤ f.leg), combined (suc m) n p.d q.d f.start, combined (suc m) n p.t q.t f.leg, combined (suc m) n p.s q.s f.segment)

mix_within : (f : Form) (m n : ℕ) (p q : Place) → IsIn p f → IsIn q f → pos 0 ≤ℤ value f (mix m n p q)
mix_within f m n p q h k =
    let first = scale_le (suc m) (pos 0) (value f p) h in
    let second = scale_le n (pos 0) (value f q) k in
    omega (arith, ints, value_of_mix f m n p q)

-- the sum of two opposed forms
opposite_sum : (f g : Form) (p : Place) → IsOpposed f g → pos 0 ≤ℤ (value f p +ℤ value g p)
opposite_sum f g p o =
    let whole = scale_le p.d (pos 0) (f.start +ℤ g.start) o.start in
    rw (o.leg, o.segment) (omega (arith, ints, whole, times_sum (pos p.d) f.start g.start, times_neg (pos p.t) f.leg, times_neg (pos p.s) f.segment))

-- a place where two opposed forms aren't negative, nor any that isn't negative at two places
pub record Between (f g : Form) (p q : Place) : Type 0 where
  pub r : Place
  pub first : IsIn r f
  pub second : IsIn r g
  pub keeps : (h : Form) → IsIn p h → IsIn q h → IsIn r h

mixture : (f g : Form) (p q : Place) (v w : ℤ) → IsOpposed f g → value f p ≡ v → value f q ≡ w → pos 0 ≤ℤ v → w <ℤ pos 0 → Between f g p q
mixture f g p q (negsuc n) w o e k h low = absurd (omega (arith, ints, h))
mixture f g p q (pos n) (pos m) o e k h low = absurd (omega (arith, ints, low))
mixture f g p q (pos n) (negsuc m) o e k h low =
    let r = mix m n p q in
    let none : value f r ≡ pos 0 = cancelled (value f p) (value f q) e k (value_of_mix f m n p q) in
    record {
      r = r;
      first = omega (arith, ints, none);
      second = omega (arith, ints, none, opposite_sum f g r o);
      keeps = λ h in_p in_q. mix_within h m n p q in_p in_q;
    }
  where
    cancelled : {x : ℤ} (v w : ℤ) → v ≡ pos n → w ≡ negsuc m → x ≡ (pos (suc m) *ℤ v) +ℤ (pos n *ℤ w) → x ≡ pos 0
    cancelled v w e k h = let sum = rw (e, k) at h in omega (arith, ints, sum)

-- between a place where one form isn't negative and a place where the opposed one isn't
pub between : (f g : Form) (p q : Place) → IsOpposed f g → IsIn p f → IsIn q g → Between f g p q
between f g p q o in_p in_q =
    by_lt_z (value g p) (pos 0)
    (λ out_p. by_lt_z (value f q) (pos 0)
    (λ out_q. mixture f g p q (value f p) (value f q) o refl refl in_p out_q)
    (λ in_q'. record { r = q; first = in_q'; second = in_q; keeps = λ h _ k. k }))
    (λ in_p'. record { r = p; first = in_p; second = in_p'; keeps = λ h k _. k })

-- a side as a form
abbrev form_of : Side → Form
form_of f = record { start = f.start; leg = f.leg; segment = f.segment }

opposed : (f g : Side) → IsOpposite f g → IsOpposed (form_of f) (form_of g)
opposed f g o = record { start = o.start; leg = o.leg; segment = o.segment }

-- a side meets a band where it meets both of its sides
pub side_meets_band : (f : Side) (band : Band) → BothMet f band.low → BothMet f band.high → SideMeetsBand f band
side_meets_band f band (p, in_p, low) (q, in_q, high) =
    let b = between (form_of band.low) (form_of band.high) p q (opposed band.low band.high band.opposite) low high in
    (b.r, b.keeps (form_of f) in_p in_q, (b.first, b.second))

-- two bands meet where both sides of one meet the other
pub bands_meet : (x y : Band) → SideMeetsBand x.low y → SideMeetsBand x.high y → BandsMeet x y
bands_meet x y (p, low, in_p) (q, high, in_q) =
    let b = between (form_of x.low) (form_of x.high) p q (opposed x.low x.high x.opposite) low high in
    (b.r, (b.first, b.second), (b.keeps (form_of y.low) in_p.0 in_q.0, b.keeps (form_of y.high) in_p.1 in_q.1))

-- some place is in two forms
abbrev pub InBoth : Form → Form → Type 0
InBoth f g = (p : Place) × IsIn p f × IsIn p g

-- four forms in two opposed pairs have one place where each pair of them, one of each, has one
pub record InAll (f g h k : Form) : Type 0 where
  pub p : Place
  pub f_in : IsIn p f
  pub g_in : IsIn p g
  pub h_in : IsIn p h
  pub k_in : IsIn p k

pub in_all : (f g h k : Form) → IsOpposed f g → IsOpposed h k → InBoth f h → InBoth f k → InBoth g h → InBoth g k → InAll f g h k
in_all f g h k o o' (p, fp, hp) (q, fq, kq) (p', gp, hp') (q', gq, kq') =
    let first = between h k p q o' hp kq in
    let second = between h k p' q' o' hp' kq' in
    let all = between f g first.r second.r o (first.keeps f fp fq) (second.keeps g gp gq) in
    record {
      p = all.r;
      f_in = all.first;
      g_in = all.second;
      h_in = all.keeps h first.first second.first;
      k_in = all.keeps k first.second second.second;
    }
