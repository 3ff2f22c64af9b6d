-- Rational points are inside alike where no segment of the rings is between them.
use Rattle.std.proofs.Common.{◌≡◌, ◌↔◌, inl, inr, ℕ, ◌*◌, ◌%◌, ◌≤◌, ◌≤ℤ◌, Bool, cond, List, count_by, refl, sym, ap, ◌∙◌, subst, arith}
use Rattle.std.proofs.Math.Nat.{mul-le-mul_left}
use Rattle.std.proofs.lemmas.Int.{ints}
use Rattle.plane_geometry.specs.declared.point.Pt.{Pt}
use Rattle.plane_geometry.specs.Segment.{LiesOnSegment}
use Rattle.plane_geometry.specs.EvenOdd.{all_segments, crosses}
use Rattle.plane_geometry.proofs.Rays.{by_order}
use Rattle.plane_geometry.proofs.Walk.{AnyOf, any_out, any_in}
use Rattle.rational_points.specs.RationalPoint.{RationalPoint, times, rings_times, numerators, LiesOn, LiesOnRings, LiesInside, HaveCommon, MeetsRings}
use Rattle.rational_points.proofs.Multiples.{crosses_times, lies_times, reversed, begins}
use Rattle.rational_points.proofs.CommonPoints.{Common, first_turned}
use Rattle.rational_points.proofs.Parity.{AllOf, all_then, odd, count_odd, odd-map, odd_alike, passed_alike}
use Rattle.rational_points.proofs.Marks.{marked, crosses_by_marks}
use Rattle.rational_points.proofs.ScaledRings.{segment_times, all_segments_times, any-map, any_then, none_of, times_again}

-- ---- over one denominator

-- two rational points over the product of their denominators
abbrev pub left : RationalPoint → RationalPoint → Pt
left p q = times q.d (numerators p)

abbrev pub right : RationalPoint → RationalPoint → Pt
right p q = times p.d (numerators q)

product_some : (m n : ℕ) → 1 ≤ m → 1 ≤ n → 1 ≤ (m * n)
product_some m n h k = omega (arith, h, mul-le-mul_left m k)

same_times : (m n : ℕ) (p : Pt) → m ≡ n → times m p ≡ times n p
same_times m n p e = ap (λ (k : ℕ). times k p) e

-- points that two segments over one denominator have in common are rational points of both
common_is : (p q : RationalPoint) (a b : Pt) → Common (left p q) (right p q) (times (p.d * q.d) a) (times (p.d * q.d) b) → HaveCommon p q a b
common_is p q a b k = record {
  r = record { d = k.n * (p.d * q.d); x = k.r.x; y = k.r.y; parts = product_some k.n (p.d * q.d) k.parts (product_some p.d q.d p.parts q.parts) };
  between = between;
  on = on;
}
  where
    on : LiesOnSegment k.r (times (k.n * (p.d * q.d)) a) (times (k.n * (p.d * q.d)) b)
    on = rw (times_again k.n (p.d * q.d) a, times_again k.n (p.d * q.d) b) k.on_second

    first : times ((k.n * (p.d * q.d)) * q.d) (numerators p) ≡ times (p.d * q.d) (times k.n (left p q))
    first =
        same_times ((k.n * (p.d * q.d)) * q.d) ((p.d * q.d) * (k.n * q.d)) (numerators p) (omega arith)
        ∙ times_again (p.d * q.d) (k.n * q.d) (numerators p)
        ∙ ap (times (p.d * q.d)) (times_again k.n q.d (numerators p))

    second : times ((k.n * (p.d * q.d)) * p.d) (numerators q) ≡ times (p.d * q.d) (times k.n (right p q))
    second =
        same_times ((k.n * (p.d * q.d)) * p.d) ((p.d * q.d) * (k.n * p.d)) (numerators q) (omega arith)
        ∙ times_again (p.d * q.d) (k.n * p.d) (numerators q)
        ∙ ap (times (p.d * q.d)) (times_again k.n p.d (numerators q))

    between : LiesOnSegment (times (p.d * q.d) k.r) (times ((k.n * (p.d * q.d)) * q.d) (numerators p)) (times ((k.n * (p.d * q.d)) * p.d) (numerators q))
    between =
        subst (λ (a : Pt). LiesOnSegment (times (p.d * q.d) k.r) a (times ((k.n * (p.d * q.d)) * p.d) (numerators q))) (sym first)
        (subst (λ (b : Pt). LiesOnSegment (times (p.d * q.d) k.r) (times (p.d * q.d) (times k.n (left p q))) b) (sym second)
        (lies_times (p.d * q.d) k.r (times k.n (left p q)) (times k.n (right p q)) k.on_first))

-- an end of the segment that lies on another segment
begins_on : (p q : RationalPoint) (a b : Pt) → LiesOn p a b → HaveCommon p q a b
begins_on p q a b h = record { r = p; between = begins (times (p.d * q.d) (numerators p)) (times (p.d * p.d) (numerators q)); on = h }

ends_on : (p q : RationalPoint) (a b : Pt) → LiesOn q a b → HaveCommon p q a b
ends_on p q a b h = record {
  r = q;
  between =
      subst (λ (k : ℕ). LiesOnSegment (times k (numerators q)) (times (q.d * q.d) (numerators p)) (times (q.d * p.d) (numerators q))) (omega arith)
      (reversed (times (q.d * p.d) (numerators q)) (times (q.d * p.d) (numerators q)) (times (q.d * q.d) (numerators p)) (begins (times (q.d * p.d) (numerators q)) (times (q.d * q.d) (numerators p))));
  on = h;
}

-- ---- no segment between two points

pub rings_on : (p : RationalPoint) (rings : List (List Pt)) → LiesOnRings p rings → AnyOf (λ s. LiesOn p s.0 s.1) (all_segments rings)
rings_on p rings on =
    let among = rw (all_segments_times p.d rings) at (any_out (λ s. LiesOnSegment (numerators p) s.0 s.1) (all_segments (rings_times p.d rings)) on) in
    any-map (λ s. LiesOnSegment (numerators p) s.0 s.1) (segment_times p.d) (all_segments rings) among

pub first_off : (p q : RationalPoint) (rings : List (List Pt)) → ¬ MeetsRings p q rings → ¬ LiesOnRings p rings
first_off p q rings none on =
    none (any_in (λ s. HaveCommon p q s.0 s.1) (all_segments rings) (any_then (λ s. LiesOn p s.0 s.1) (λ s. HaveCommon p q s.0 s.1) (all_segments rings) (λ s h. begins_on p q s.0 s.1 h) (rings_on p rings on)))

pub second_off : (p q : RationalPoint) (rings : List (List Pt)) → ¬ MeetsRings p q rings → ¬ LiesOnRings q rings
second_off p q rings none on =
    none (any_in (λ s. HaveCommon p q s.0 s.1) (all_segments rings) (any_then (λ s. LiesOn q s.0 s.1) (λ s. HaveCommon p q s.0 s.1) (all_segments rings) (λ s h. ends_on p q s.0 s.1 h) (rings_on q rings on)))

-- no segment of the rings, all sides n times as long, has a point in common with the one from p to q
abbrev Apart : Pt → Pt → ℕ → List (List Pt) → Type 0
Apart p q n rings = AllOf (λ s. ¬ Common p q (times n s.0) (times n s.1)) (all_segments rings)

crossed_alike_down : (p q : Pt) (n : ℕ) (rings : List (List Pt)) → q.y ≤ℤ p.y → Apart q p n rings → odd (λ s. crosses p (segment_times n s)) (all_segments rings) ≡ odd (λ s. crosses q (segment_times n s)) (all_segments rings)
crossed_alike_down p q n rings order apart =
    passed_alike (λ s. crosses p (segment_times n s)) (λ s. crosses q (segment_times n s)) (λ v. marked p q (times n v)) rings
    (all_then (λ s. ¬ Common q p (times n s.0) (times n s.1)) _ (all_segments rings) (λ s none. crosses_by_marks p q (times n s.0) (times n s.1) order none) apart)

crossed_alike : (p q : Pt) (n : ℕ) (rings : List (List Pt)) → Apart p q n rings → odd (λ s. crosses p (segment_times n s)) (all_segments rings) ≡ odd (λ s. crosses q (segment_times n s)) (all_segments rings)
crossed_alike p q n rings apart =
    by_order p.y q.y
    (λ up. sym (crossed_alike_down q p n rings up apart))
    (λ down. crossed_alike_down p q n rings (omega (arith, ints, down))
    (all_then (λ s. ¬ Common p q (times n s.0) (times n s.1)) (λ s. ¬ Common q p (times n s.0) (times n s.1)) (all_segments rings) (λ s none common. none (first_turned q p (times n s.0) (times n s.1) common)) apart))

-- the crossings of a point over its own denominator and over a multiple
pub crossings : (p : RationalPoint) (m n : ℕ) (rings : List (List Pt)) → 1 ≤ m → m * p.d ≡ n → count_by (crosses (numerators p)) (all_segments (rings_times p.d rings)) % 2 ≡ cond (odd (λ s. crosses (times m (numerators p)) (segment_times n s)) (all_segments rings)) 1 0
crossings p m n rings some e =
    count_odd (crosses (numerators p)) (all_segments (rings_times p.d rings))
    ∙ ap (λ (b : Bool). cond b 1 0)
    (ap (odd (crosses (numerators p))) (all_segments_times p.d rings)
    ∙ odd-map (crosses (numerators p)) (segment_times p.d) (all_segments rings)
    ∙ odd_alike (λ s. crosses (numerators p) (segment_times p.d s)) (λ s. crosses (times m (numerators p)) (segment_times n s)) same (all_segments rings))
  where
    multiple : (a : Pt) → times m (times p.d a) ≡ times n a
    multiple a = sym (times_again m p.d a) ∙ same_times (m * p.d) n a e

    same : (s : Pt × Pt) → crosses (numerators p) (segment_times p.d s) ≡ crosses (times m (numerators p)) (segment_times n s)
    same s =
        sym (crosses_times m (numerators p) (times p.d s.0) (times p.d s.1) some)
        ∙ (λ i. crosses (times m (numerators p)) (multiple s.0 i, multiple s.1 i))

parity_alike : (p q : RationalPoint) (rings : List (List Pt)) → ¬ MeetsRings p q rings → count_by (crosses (numerators p)) (all_segments (rings_times p.d rings)) % 2 ≡ count_by (crosses (numerators q)) (all_segments (rings_times q.d rings)) % 2
parity_alike p q rings none =
    let off = none_of (λ s. HaveCommon p q s.0 s.1) (all_segments rings) (λ h. none (any_in (λ s. HaveCommon p q s.0 s.1) (all_segments rings) h)) in
    let apart = all_then (λ s. ¬ HaveCommon p q s.0 s.1) (λ s. ¬ Common (left p q) (right p q) (times (p.d * q.d) s.0) (times (p.d * q.d) s.1)) (all_segments rings) (λ s h common. h (common_is p q s.0 s.1 common)) off in
    crossings p q.d (p.d * q.d) rings q.parts (omega arith)
    ∙ ap (λ (b : Bool). cond b 1 0) (crossed_alike (left p q) (right p q) (p.d * q.d) rings apart)
    ∙ sym (crossings q p.d (p.d * q.d) rings p.parts refl)

pub joined_alike : (p q : RationalPoint) (rings : List (List Pt)) → ¬ MeetsRings p q rings → LiesInside p rings ↔ LiesInside q rings
joined_alike p q rings none = (one_way, other_way)
  where
    one_way : LiesInside p rings → LiesInside q rings
    one_way (inl on) = absurd (first_off p q rings none on)
    one_way (inr inside) = inr (sym (parity_alike p q rings none) ∙ inside)

    other_way : LiesInside q rings → LiesInside p rings
    other_way (inl on) = absurd (second_off p q rings none on)
    other_way (inr inside) = inr (parity_alike p q rings none ∙ inside)
