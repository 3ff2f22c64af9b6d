-- One point over several denominators.
use Rattle.std.proofs.Common.{◌≡◌, ◌↔◌, inl, inr, ℕ, ◌*◌, ◌%◌, ◌≤◌, ℤ, pos, ◌-ℤ◌, ◌*ℤ◌, cond, List, [], ◌∷◌, map, count_by, refl, sym, ap, ◌∙◌, subst, arith}
use Rattle.std.proofs.lemmas.Int.{ints}
use Rattle.plane_geometry.specs.declared.point.Pt.{Pt}
use Rattle.plane_geometry.specs.Segment.{LiesOnSegment}
use Rattle.plane_geometry.specs.EvenOdd.{all_segments, crosses, IsInside}
use Rattle.plane_geometry.proofs.Integers.{times_swap, cancel_eq}
use Rattle.plane_geometry.proofs.Walk.{AnyOf, any_in}
use Rattle.rational_points.specs.RationalPoint.{RationalPoint, whole, IsSamePoint, times, rings_times, numerators, LiesOn, LiesOnRings, LiesInside}
use Rattle.rational_points.proofs.Multiples.{times_difference}
use Rattle.rational_points.proofs.Parity.{odd}
use Rattle.rational_points.proofs.ScaledRings.{segment_times, all_segments_times, map-any, any_then}
use Rattle.rational_points.proofs.JoinedPoints.{left, right, rings_on, crossings}

-- ---- over 1

one : (z : ℤ) → pos 1 *ℤ z ≡ z
one z = omega (arith, ints)

times_one : (p : Pt) → times 1 p ≡ p
times_one p = λ i. record { x = one p.x i; y = one p.y i }

map_same : {X : Type 0} (f : X → X) → ((x : X) → f x ≡ x) → (xs : List X) → map f xs ≡ xs
map_same f e [] = refl
map_same f e (x ∷ xs) = λ i. e x i ∷ map_same f e xs i

rings_one : (rings : List (List Pt)) → rings_times 1 rings ≡ rings
rings_one rings = map_same (map (times 1)) (map_same (times 1) times_one) rings

pub whole_alike : (p : Pt) (rings : List (List Pt)) → LiesInside (whole p) rings ↔ IsInside p rings
whole_alike p rings =
    (λ h. subst (IsInside p) (rings_one rings) h, λ h. subst (IsInside p) (sym (rings_one rings)) h)

-- ---- over two denominators

on_both : (m n : ℕ) (p q a : ℤ) → pos n *ℤ p ≡ pos m *ℤ q → pos m *ℤ (q -ℤ (pos n *ℤ a)) ≡ pos n *ℤ (p -ℤ (pos m *ℤ a))
on_both m n p q a e =
    omega (arith, ints, e, times_difference m q (pos n *ℤ a), times_difference n p (pos m *ℤ a), times_swap (pos m) (pos n) a)

way_both : (m n : ℕ) (a b : ℤ) → pos n *ℤ ((pos m *ℤ b) -ℤ (pos m *ℤ a)) ≡ pos m *ℤ ((pos n *ℤ b) -ℤ (pos n *ℤ a))
way_both m n a b =
    omega (arith, ints, times_difference n (pos m *ℤ b) (pos m *ℤ a), times_difference m (pos n *ℤ b) (pos n *ℤ a), times_swap (pos n) (pos m) b, times_swap (pos n) (pos m) a)

part_same : (d t m n : ℕ) (p q a b : ℤ) → 1 ≤ m → pos n *ℤ p ≡ pos m *ℤ q → pos d *ℤ (p -ℤ (pos m *ℤ a)) ≡ pos t *ℤ ((pos m *ℤ b) -ℤ (pos m *ℤ a)) → pos d *ℤ (q -ℤ (pos n *ℤ a)) ≡ pos t *ℤ ((pos n *ℤ b) -ℤ (pos n *ℤ a))
part_same d t m n p q a b some e f =
    cancel_eq m _ _ some
    (times_swap (pos m) (pos d) (q -ℤ (pos n *ℤ a))
    ∙ ap (λ (z : ℤ). pos d *ℤ z) (on_both m n p q a e)
    ∙ times_swap (pos d) (pos n) (p -ℤ (pos m *ℤ a))
    ∙ ap (λ (z : ℤ). pos n *ℤ z) f
    ∙ times_swap (pos n) (pos t) ((pos m *ℤ b) -ℤ (pos m *ℤ a))
    ∙ ap (λ (z : ℤ). pos t *ℤ z) (way_both m n a b)
    ∙ times_swap (pos t) (pos m) ((pos n *ℤ b) -ℤ (pos n *ℤ a)))

same_lies_on : (p q : RationalPoint) (a b : Pt) → IsSamePoint p q → LiesOn p a b → LiesOn q a b
same_lies_on p q a b e h = record {
  d = h.d;
  t = h.t;
  parts = h.parts;
  on_the_way = h.on_the_way;
  at_x = part_same h.d h.t p.d q.d p.x q.x a.x b.x p.parts e.at_x h.at_x;
  at_y = part_same h.d h.t p.d q.d p.y q.y a.y b.y p.parts e.at_y h.at_y;
}

pub on_rings : (p : RationalPoint) (rings : List (List Pt)) → AnyOf (λ s. LiesOn p s.0 s.1) (all_segments rings) → LiesOnRings p rings
on_rings p rings h =
    any_in (λ s. LiesOnSegment (numerators p) s.0 s.1) (all_segments (rings_times p.d rings))
    (subst (AnyOf (λ s. LiesOnSegment (numerators p) s.0 s.1)) (sym (all_segments_times p.d rings))
    (map-any (λ s. LiesOnSegment (numerators p) s.0 s.1) (segment_times p.d) (all_segments rings) h))

pub same_on_rings : (p q : RationalPoint) (rings : List (List Pt)) → IsSamePoint p q → LiesOnRings p rings → LiesOnRings q rings
same_on_rings p q rings e on =
    on_rings q rings (any_then (λ s. LiesOn p s.0 s.1) (λ s. LiesOn q s.0 s.1) (all_segments rings) (λ s h. same_lies_on p q s.0 s.1 e h) (rings_on p rings on))

same_parity : (p q : RationalPoint) (rings : List (List Pt)) → IsSamePoint p q → count_by (crosses (numerators p)) (all_segments (rings_times p.d rings)) % 2 ≡ count_by (crosses (numerators q)) (all_segments (rings_times q.d rings)) % 2
same_parity p q rings e =
    let same : left p q ≡ right p q = λ i. record { x = e.at_x i; y = e.at_y i } in
    crossings p q.d (p.d * q.d) rings q.parts (omega arith)
    ∙ ap (λ (v : Pt). cond (odd (λ s. crosses v (segment_times (p.d * q.d) s)) (all_segments rings)) 1 0) same
    ∙ sym (crossings q p.d (p.d * q.d) rings p.parts refl)

pub same_inside : (p q : RationalPoint) (rings : List (List Pt)) → IsSamePoint p q → LiesInside p rings → LiesInside q rings
same_inside p q rings e (inl on) = inl (same_on_rings p q rings e on)
same_inside p q rings e (inr inside) = inr (sym (same_parity p q rings e) ∙ inside)
