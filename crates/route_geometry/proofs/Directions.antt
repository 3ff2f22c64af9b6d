-- Lines that part a leg and a segment.
use Rattle.std.proofs.Common.{◌≡◌, ◌⊎◌, inl, inr, ℕ, ◌+◌, ◌*◌, ℤ, pos, ◌+ℤ◌, ◌-ℤ◌, ◌*ℤ◌, neg_ℤ, ◌<ℤ◌, unsigned_abs, ap, refl, ◌∙◌, sym, arith}
use Rattle.std.proofs.lemmas.Int.{ints}
use Rattle.plane_geometry.specs.declared.point.Pt.{Pt}
use Rattle.plane_geometry.proofs.Integers.{times_sum, times_neg, neg_times}
use Rattle.route_geometry.specs.declared.leg.Leg.{Leg}
use Rattle.route_geometry.specs.Parted.{ahead, reach}
use Rattle.route_geometry.proofs.Trades.{mix, AllNegative, Differ, IsOpen}

-- in the direction (u, v) the segment lies beyond the leg
pub record Beyond (leg : Leg) (c e : Pt) (u v : ℤ) : Type 0 where
  pub ac : reach leg u v <ℤ ahead u v leg.a c
  pub bc : reach leg u v <ℤ ahead u v leg.b c
  pub ae : reach leg u v <ℤ ahead u v leg.a e
  pub be : reach leg u v <ℤ ahead u v leg.b e

-- (u, v) is the direction (x, y) or the opposite one
abbrev pub Along : ℤ → ℤ → ℤ → ℤ → Type 0
Along u v x y = ((u ≡ x) × (v ≡ y)) ⊎ ((u ≡ neg_ℤ x) × (v ≡ neg_ℤ y))

-- (u, v) is across an axis, the leg or the segment
abbrev pub IsTried : Leg → Pt → Pt → ℤ → ℤ → Type 0
IsTried leg c e u v =
    (Along u v (pos 1) (pos 0) ⊎ Along u v (pos 0) (pos 1))
    ⊎ (Along u v (leg.b.y -ℤ leg.a.y) (leg.a.x -ℤ leg.b.x) ⊎ Along u v (e.y -ℤ c.y) (c.x -ℤ e.x))

-- no such line parts them
pub record NotParted (leg : Leg) (c e : Pt) : Type 0 where
  pub none : (u v : ℤ) → IsTried leg c e u v → ¬ Beyond leg c e u v

-- seen in a mirror
abbrev pub flip_x : Pt → Pt
flip_x p = record { x = neg_ℤ p.x; y = p.y }

abbrev pub flip_y : Pt → Pt
flip_y p = record { x = p.x; y = neg_ℤ p.y }

abbrev pub leg_x : Leg → Leg
leg_x leg = record { a = flip_x leg.a; b = flip_x leg.b; w = leg.w; h = leg.h }

abbrev pub leg_y : Leg → Leg
leg_y leg = record { a = flip_y leg.a; b = flip_y leg.b; w = leg.w; h = leg.h }

same_size : (a : ℤ) → unsigned_abs (neg_ℤ a) ≡ unsigned_abs a
same_size a = omega (arith, ints)

mirrored : (u p q : ℤ) → u *ℤ (neg_ℤ q -ℤ neg_ℤ p) ≡ neg_ℤ u *ℤ (q -ℤ p)
mirrored u p q =
    let turned : neg_ℤ q -ℤ neg_ℤ p ≡ neg_ℤ (q -ℤ p) = omega (arith, ints) in
    ap (λ (z : ℤ). u *ℤ z) turned ∙ times_neg u (q -ℤ p) ∙ sym (neg_times u (q -ℤ p))

beyond_x : (leg : Leg) (c e : Pt) (u v : ℤ) → Beyond (leg_x leg) (flip_x c) (flip_x e) u v → Beyond leg c e (neg_ℤ u) v
beyond_x leg c e u v b = record {
  ac = rw (same_size u, ← mirrored u leg.a.x c.x) b.ac;
  bc = rw (same_size u, ← mirrored u leg.b.x c.x) b.bc;
  ae = rw (same_size u, ← mirrored u leg.a.x e.x) b.ae;
  be = rw (same_size u, ← mirrored u leg.b.x e.x) b.be;
}

beyond_y : (leg : Leg) (c e : Pt) (u v : ℤ) → Beyond (leg_y leg) (flip_y c) (flip_y e) u v → Beyond leg c e u (neg_ℤ v)
beyond_y leg c e u v b = record {
  ac = rw (same_size v, ← mirrored v leg.a.y c.y) b.ac;
  bc = rw (same_size v, ← mirrored v leg.b.y c.y) b.bc;
  ae = rw (same_size v, ← mirrored v leg.a.y e.y) b.ae;
  be = rw (same_size v, ← mirrored v leg.b.y e.y) b.be;
}

along_x : (u v x y x' y' : ℤ) → x' ≡ x → y' ≡ neg_ℤ y → Along u v x y → Along (neg_ℤ u) v x' y'
along_x u v x y x' y' f g (inl (h, k)) = inr (omega (arith, ints, f, g, h, k), omega (arith, ints, f, g, h, k))
along_x u v x y x' y' f g (inr (h, k)) = inl (omega (arith, ints, f, g, h, k), omega (arith, ints, f, g, h, k))

along_x' : (u v x y x' y' : ℤ) → x' ≡ neg_ℤ x → y' ≡ y → Along u v x y → Along (neg_ℤ u) v x' y'
along_x' u v x y x' y' f g (inl (h, k)) = inl (omega (arith, ints, f, g, h, k), omega (arith, ints, f, g, h, k))
along_x' u v x y x' y' f g (inr (h, k)) = inr (omega (arith, ints, f, g, h, k), omega (arith, ints, f, g, h, k))

along_y : (u v x y x' y' : ℤ) → x' ≡ neg_ℤ x → y' ≡ y → Along u v x y → Along u (neg_ℤ v) x' y'
along_y u v x y x' y' f g (inl (h, k)) = inr (omega (arith, ints, f, g, h, k), omega (arith, ints, f, g, h, k))
along_y u v x y x' y' f g (inr (h, k)) = inl (omega (arith, ints, f, g, h, k), omega (arith, ints, f, g, h, k))

along_y' : (u v x y x' y' : ℤ) → x' ≡ x → y' ≡ neg_ℤ y → Along u v x y → Along u (neg_ℤ v) x' y'
along_y' u v x y x' y' f g (inl (h, k)) = inl (omega (arith, ints, f, g, h, k), omega (arith, ints, f, g, h, k))
along_y' u v x y x' y' f g (inr (h, k)) = inr (omega (arith, ints, f, g, h, k), omega (arith, ints, f, g, h, k))

tried_x : (leg : Leg) (c e : Pt) (u v : ℤ) → IsTried (leg_x leg) (flip_x c) (flip_x e) u v → IsTried leg c e (neg_ℤ u) v
tried_x leg c e u v (inl (inl h)) = inl (inl (along_x u v (pos 1) (pos 0) (pos 1) (pos 0) refl refl h))
tried_x leg c e u v (inl (inr h)) = inl (inr (along_x' u v (pos 0) (pos 1) (pos 0) (pos 1) refl refl h))
tried_x leg c e u v (inr (inl h)) =
    inr (inl (along_x u v (leg.b.y -ℤ leg.a.y) (neg_ℤ leg.a.x -ℤ neg_ℤ leg.b.x) (leg.b.y -ℤ leg.a.y) (leg.a.x -ℤ leg.b.x) refl (omega (arith, ints)) h))
tried_x leg c e u v (inr (inr h)) =
    inr (inr (along_x u v (e.y -ℤ c.y) (neg_ℤ c.x -ℤ neg_ℤ e.x) (e.y -ℤ c.y) (c.x -ℤ e.x) refl (omega (arith, ints)) h))

tried_y : (leg : Leg) (c e : Pt) (u v : ℤ) → IsTried (leg_y leg) (flip_y c) (flip_y e) u v → IsTried leg c e u (neg_ℤ v)
tried_y leg c e u v (inl (inl h)) = inl (inl (along_y' u v (pos 1) (pos 0) (pos 1) (pos 0) refl refl h))
tried_y leg c e u v (inl (inr h)) = inl (inr (along_y u v (pos 0) (pos 1) (pos 0) (pos 1) refl refl h))
tried_y leg c e u v (inr (inl h)) =
    inr (inl (along_y u v (neg_ℤ leg.b.y -ℤ neg_ℤ leg.a.y) (leg.a.x -ℤ leg.b.x) (leg.b.y -ℤ leg.a.y) (leg.a.x -ℤ leg.b.x) (omega (arith, ints)) refl h))
tried_y leg c e u v (inr (inr h)) =
    inr (inr (along_y u v (neg_ℤ e.y -ℤ neg_ℤ c.y) (c.x -ℤ e.x) (e.y -ℤ c.y) (c.x -ℤ e.x) (omega (arith, ints)) refl h))

pub not_parted_x : (leg : Leg) (c e : Pt) → NotParted leg c e → NotParted (leg_x leg) (flip_x c) (flip_x e)
not_parted_x leg c e n = record { none = λ u v tried b. n.none (neg_ℤ u) v (tried_x leg c e u v tried) (beyond_x leg c e u v b) }

pub not_parted_y : (leg : Leg) (c e : Pt) → NotParted leg c e → NotParted (leg_y leg) (flip_y c) (flip_y e)
not_parted_y leg c e n = record { none = λ u v tried b. n.none u (neg_ℤ v) (tried_y leg c e u v tried) (beyond_y leg c e u v b) }

-- what a negative mixture at a pair of ends says
one_end : (m n w h : ℕ) (f g x y : ℤ) → f ≡ pos w +ℤ x → g ≡ pos h +ℤ y → mix m n f g <ℤ pos 0 → pos ((unsigned_abs (neg_ℤ (pos m)) * w) + (unsigned_abs (neg_ℤ (pos n)) * h)) <ℤ ((neg_ℤ (pos m) *ℤ x) +ℤ (neg_ℤ (pos n) *ℤ y))
one_end m n w h f g x y p q low =
    let sum = rw (p, q) at low in
    rw (same_size (pos m), same_size (pos n)) (omega (arith, ints, sum, times_sum (pos m) (pos w) x, times_sum (pos n) (pos h) y, neg_times (pos m) x, neg_times (pos n) y))

-- a mixture of the two upper sides that is negative everywhere parts leg and segment
told : (leg : Leg) (c e : Pt) (m n : ℕ) → AllNegative m n (pos leg.w -ℤ (leg.a.x -ℤ c.x)) (neg_ℤ (leg.b.x -ℤ leg.a.x)) (e.x -ℤ c.x) (pos leg.h -ℤ (leg.a.y -ℤ c.y)) (neg_ℤ (leg.b.y -ℤ leg.a.y)) (e.y -ℤ c.y) → Beyond leg c e (neg_ℤ (pos m)) (neg_ℤ (pos n))
told leg c e m n low = record {
  ac = one_end m n leg.w leg.h _ _ (c.x -ℤ leg.a.x) (c.y -ℤ leg.a.y) (omega (arith, ints)) (omega (arith, ints)) low.at_start;
  bc = one_end m n leg.w leg.h _ _ (c.x -ℤ leg.b.x) (c.y -ℤ leg.b.y) (omega (arith, ints)) (omega (arith, ints)) low.at_leg;
  ae = one_end m n leg.w leg.h _ _ (e.x -ℤ leg.a.x) (e.y -ℤ leg.a.y) (omega (arith, ints)) (omega (arith, ints)) low.at_segment;
  be = one_end m n leg.w leg.h _ _ (e.x -ℤ leg.b.x) (e.y -ℤ leg.b.y) (omega (arith, ints)) (omega (arith, ints)) low.at_both;
}

-- (u, v) is across a way, where the way's two forms differ in sign
across_leg : (dx dy : ℤ) → Differ (neg_ℤ dx) (neg_ℤ dy) → Along (neg_ℤ (pos (unsigned_abs (neg_ℤ dy)))) (neg_ℤ (pos (unsigned_abs (neg_ℤ dx)))) dy (neg_ℤ dx)
across_leg dx dy (inl (h, k)) = inl (omega (arith, ints, h, k), omega (arith, ints, h, k))
across_leg dx dy (inr (h, k)) = inr (omega (arith, ints, h, k), omega (arith, ints, h, k))

across_segment : (dx dy : ℤ) → Differ dx dy → Along (neg_ℤ (pos (unsigned_abs dy))) (neg_ℤ (pos (unsigned_abs dx))) dy (neg_ℤ dx)
across_segment dx dy (inl (h, k)) = inr (omega (arith, ints, h, k), omega (arith, ints, h, k))
across_segment dx dy (inr (h, k)) = inl (omega (arith, ints, h, k), omega (arith, ints, h, k))

same_line : (u v x y y' : ℤ) → y ≡ y' → Along u v x y → Along u v x y'
same_line u v x y y' e h = rw e at h

pub upper_open : (leg : Leg) (c e : Pt) → NotParted leg c e → IsOpen (pos leg.w -ℤ (leg.a.x -ℤ c.x)) (neg_ℤ (leg.b.x -ℤ leg.a.x)) (e.x -ℤ c.x) (pos leg.h -ℤ (leg.a.y -ℤ c.y)) (neg_ℤ (leg.b.y -ℤ leg.a.y)) (e.y -ℤ c.y)
upper_open leg c e n = record {
  first = λ low. n.none _ _ (inl (inl (inr (refl, refl)))) (told leg c e 1 0 low);
  second = λ low. n.none _ _ (inl (inr (inr (refl, refl)))) (told leg c e 0 1 low);
  leg = λ differ low. n.none _ _ (inr (inl (same_line _ _ (leg.b.y -ℤ leg.a.y) (neg_ℤ (leg.b.x -ℤ leg.a.x)) (leg.a.x -ℤ leg.b.x) (omega (arith, ints)) (across_leg (leg.b.x -ℤ leg.a.x) (leg.b.y -ℤ leg.a.y) differ)))) (told leg c e _ _ low);
  segment = λ differ low. n.none _ _ (inr (inr (same_line _ _ (e.y -ℤ c.y) (neg_ℤ (e.x -ℤ c.x)) (c.x -ℤ e.x) (omega (arith, ints)) (across_segment (e.x -ℤ c.x) (e.y -ℤ c.y) differ)))) (told leg c e _ _ low);
}
