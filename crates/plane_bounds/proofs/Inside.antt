-- The test of points inside rings decides the even-odd rule.
use Rattle.std.proofs.Common.{ℤ, pos, ◌≤ℤ◌, int_le, ◌%◌, List, count_by, arith}
use Rattle.std.specs.List.{list_any, Any}
use Rattle.std.specs.Bool.{Decides}
use Rattle.std.proofs.lemmas.Int.{ints}
use Rattle.std.proofs.lemmas.Bool.Decides.{Decides-and, Decides-or, Decides-like, Decides-eqb}
use Rattle.std.proofs.lemmas.List.Folds.{Any-from_list_any, list_any-from_Any}
use Rattle.plane_geometry.specs.declared.point.Pt.{Pt}
use Rattle.plane_geometry.specs.Segment.{LiesOnSegment, IsBetween}
use Rattle.plane_geometry.specs.Orientation.{turn}
use Rattle.plane_geometry.specs.EvenOdd.{all_segments, crosses, IsInside}
use Rattle.plane_geometry.proofs.Places.{lies_on_segment, is_in_box, in_line}
use Rattle.plane_bounds.specs.Inside.{is_between, is_on, is_inside}

Decides-int_le : (a b : ℤ) → Decides (int_le a b) (a ≤ℤ b)
Decides-int_le a b = (λ e. grind (arith, ints), λ h. grind (arith, ints))

Decides-between : (c a b : ℤ) → Decides (is_between c a b) (IsBetween c a b)
Decides-between c a b =
    Decides-or _ _ (Decides-and _ _ (Decides-int_le a c) (Decides-int_le c b)) (Decides-and _ _ (Decides-int_le b c) (Decides-int_le c a))

pub Decides-on : (p : Pt) (s : Pt × Pt) → Decides (is_on p s) (LiesOnSegment p s.0 s.1)
Decides-on p s =
    let box = Decides-and _ _ (Decides-between p.x s.0.x s.1.x) (Decides-between p.y s.0.y s.1.y) in
    let line = Decides-and _ _ (Decides-int_le (turn s.0 s.1 p) (pos 0)) (Decides-int_le (pos 0) (turn s.0 s.1 p)) in
    Decides-like (is_on p s)
    (λ h. lies_on_segment p s.0 s.1 (record { across = h.0.0; along = h.0.1 }) (omega (arith, ints, h.1.0, h.1.1)))
    (λ q.
    let b = is_in_box p s.0 s.1 q in
    let e = in_line p s.0 s.1 q in
    ((b.across, b.along), (omega (arith, ints, e), omega (arith, ints, e))))
    (Decides-and _ _ box line)

Decides-on_any : (p : Pt) (ss : List (Pt × Pt)) → Decides (list_any (is_on p) ss) (Any (λ s. LiesOnSegment p s.0 s.1) ss)
Decides-on_any p ss = (
  λ e. let a = Any-from_list_any (is_on p) ss e in (a.0, a.1, a.2, a.3, (Decides-on p a.1).0 a.4),
  λ a. list_any-from_Any (is_on p) ss (a.0, a.1, a.2, a.3, (Decides-on p a.1).1 a.4),
)

pub Decides-inside : (p : Pt) (rings : List (List Pt)) → Decides (is_inside p rings) (IsInside p rings)
Decides-inside p rings =
    Decides-or _ _ (Decides-on_any p (all_segments rings)) (Decides-eqb (count_by (crosses p) (all_segments rings) % 2) 1)
