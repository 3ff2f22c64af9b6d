-- A segment that crosses a ray has a place there.
use Rattle.std.proofs.Common.{◌≡◌, ◌⊎◌, inl, inr, ℕ, ◌≤◌, ℤ, pos, negsuc, suc, zero, ◌-ℤ◌, ◌*ℤ◌, neg_ℤ, ◌≤ℤ◌, ◌<ℤ◌, ap, sym, ◌∙◌, arith, true, int_lt, IsTrue}
use Rattle.std.proofs.lemmas.Int.{ints}
use Rattle.std.proofs.lemmas.Bool.{false≢true}
use Rattle.plane_geometry.specs.declared.point.Pt.{Pt}
use Rattle.plane_geometry.specs.EvenOdd.{crosses, CrossesRay}
use Rattle.plane_geometry.specs.Orientation.{turn}
use Rattle.plane_geometry.proofs.Integers.{times_swap, times_neg, neg_times, times_comm, cancel_lt, scale_lt}
use Rattle.plane_geometry.proofs.Rays.{lt_yes, by_order, crosses_rising, crosses_falling, crosses_below, crosses_above}

-- t of d parts of the way (u, h) come to the height y, beyond x
record IsBeyond (u h x y : ℤ) : Type 0 where
  pub d : ℕ
  pub t : ℕ
  pub parts : 1 ≤ d
  pub on_the_way : t ≤ d
  pub at_height : pos d *ℤ y ≡ pos t *ℤ h
  pub beyond : (pos d *ℤ x) <ℤ (pos t *ℤ u)

-- the place at a height of a way that rises
place : (u h x y : ℤ) → pos 0 <ℤ h → pos 0 ≤ℤ y → y ≤ℤ h → (h *ℤ x) <ℤ (u *ℤ y) → IsBeyond u h x y
place u (pos zero) x y up low high e = absurd (omega (arith, ints))
place u (pos (suc m)) x (pos n) up low high e = record {
  d = suc m;
  t = n;
  parts = omega arith;
  on_the_way = omega (arith, ints);
  at_height = times_comm (pos (suc m)) (pos n);
  beyond = omega (arith, ints, times_comm u (pos n));
}
place u (pos (suc m)) x (negsuc n) up low high e = absurd (omega (arith, ints))
place u (negsuc m) x y up low high e = absurd (omega (arith, ints))

-- such a place tells on which side of the way x is
side : (u h x y : ℤ) (d t : ℕ) → pos 0 <ℤ h → pos d *ℤ y ≡ pos t *ℤ h → (pos d *ℤ x) <ℤ (pos t *ℤ u) → (h *ℤ x) <ℤ (u *ℤ y)
side u (pos n) x y d t up e f =
    let grown = scale_lt n (pos d *ℤ x) (pos t *ℤ u) (omega (arith, ints)) f in
    let right : pos n *ℤ (pos t *ℤ u) ≡ pos d *ℤ (u *ℤ y) =
    times_swap (pos n) (pos t) u ∙ ap (λ (z : ℤ). pos t *ℤ z) (times_comm (pos n) u) ∙ times_swap (pos t) u (pos n) ∙ ap (λ (z : ℤ). u *ℤ z) (sym e) ∙ times_swap u (pos d) y in
    cancel_lt d (pos n *ℤ x) (u *ℤ y) (rw (times_swap (pos n) (pos d) x, right) at grown)
side u (negsuc n) x y d t up e f = absurd (omega (arith, ints))

-- where a way falls, turned upside down
fallen : (u h x y : ℤ) → IsBeyond u (neg_ℤ h) x (neg_ℤ y) → IsBeyond u h x y
fallen u h x y q = record {
  d = q.d;
  t = q.t;
  parts = q.parts;
  on_the_way = q.on_the_way;
  at_height = omega (arith, ints, q.at_height, times_neg (pos q.d) y, times_neg (pos q.t) h);
  beyond = q.beyond;
}

ray_of : (p a b : Pt) → ((a.y ≤ℤ p.y) × (p.y <ℤ b.y)) ⊎ ((b.y ≤ℤ p.y) × (p.y <ℤ a.y)) → IsBeyond (b.x -ℤ a.x) (b.y -ℤ a.y) (p.x -ℤ a.x) (p.y -ℤ a.y) → CrossesRay p a b
ray_of p a b s q = record { straddles = s; d = q.d; t = q.t; parts = q.parts; on_the_way = q.on_the_way; at_height = q.at_height; beyond = q.beyond }

lt_told : (a b : ℤ) → int_lt a b ≡ true → a <ℤ b
lt_told a b e = omega (arith, ints)

-- a segment that crosses has its place
pub crossing_place : (p a b : Pt) → IsTrue (crosses p (a, b)) → CrossesRay p a b
crossing_place p a b e =
    by_order a.y p.y
    (λ from. by_order b.y p.y
    (λ to. absurd (false≢true (sym (crosses_below p a b from to) ∙ e)))
    (λ to. rising from to (lt_told (pos 0) (turn a b p) (sym (crosses_rising p a b from to) ∙ e))))
    (λ from. by_order b.y p.y
    (λ to. falling from to (lt_told (turn a b p) (pos 0) (sym (crosses_falling p a b from to) ∙ e)))
    (λ to. absurd (false≢true (sym (crosses_above p a b from to) ∙ e))))
  where
    rising : a.y ≤ℤ p.y → p.y <ℤ b.y → pos 0 <ℤ turn a b p → CrossesRay p a b
    rising from to left =
        ray_of p a b (inl (from, to)) (place (b.x -ℤ a.x) (b.y -ℤ a.y) (p.x -ℤ a.x) (p.y -ℤ a.y) (omega (arith, ints)) (omega (arith, ints)) (omega (arith, ints)) (omega (arith, ints, left)))

    falling : p.y <ℤ a.y → b.y ≤ℤ p.y → turn a b p <ℤ pos 0 → CrossesRay p a b
    falling from to right =
        let u = b.x -ℤ a.x in
        let h = b.y -ℤ a.y in
        let x = p.x -ℤ a.x in
        let y = p.y -ℤ a.y in
        ray_of p a b (inr (to, from)) (fallen u h x y (place u (neg_ℤ h) x (neg_ℤ y) (omega (arith, ints)) (omega (arith, ints)) (omega (arith, ints)) (omega (arith, ints, right, neg_times h x, times_neg u y))))

-- a segment with such a place crosses
pub place_crosses : (p a b : Pt) → CrossesRay p a b → IsTrue (crosses p (a, b))
place_crosses p a b q = told q.straddles
  where
    told : ((a.y ≤ℤ p.y) × (p.y <ℤ b.y)) ⊎ ((b.y ≤ℤ p.y) × (p.y <ℤ a.y)) → IsTrue (crosses p (a, b))
    told (inl (from, to)) =
        let left = side (b.x -ℤ a.x) (b.y -ℤ a.y) (p.x -ℤ a.x) (p.y -ℤ a.y) q.d q.t (omega (arith, ints)) q.at_height q.beyond in
        crosses_rising p a b from to ∙ lt_yes (pos 0) (turn a b p) (omega (arith, ints, left))
    told (inr (to, from)) =
        let u = b.x -ℤ a.x in
        let h = b.y -ℤ a.y in
        let x = p.x -ℤ a.x in
        let y = p.y -ℤ a.y in
        let at : pos q.d *ℤ neg_ℤ y ≡ pos q.t *ℤ neg_ℤ h = omega (arith, ints, q.at_height, times_neg (pos q.d) y, times_neg (pos q.t) h) in
        let right = side u (neg_ℤ h) x (neg_ℤ y) q.d q.t (omega (arith, ints)) at q.beyond in
        crosses_falling p a b from to ∙ lt_yes (turn a b p) (pos 0) (omega (arith, ints, right, neg_times h x, times_neg u y))
