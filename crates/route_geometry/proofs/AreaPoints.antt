-- The points of a widened leg that are inside rings.
use Rattle.std.proofs.Common.{◌≡◌, ◌↔◌, inl, inr, ℕ, ◌*◌, ◌≤◌, ℤ, pos, ◌-ℤ◌, ◌*ℤ◌, unsigned_abs, Bool, true, false, ◌||◌, refl, sym, ap, ◌∙◌, arith, List, IsTrue}
use Rattle.std.proofs.lemmas.Int.{ints}
use Rattle.std.proofs.lemmas.Bool.{false≢true, cases_Bool}
use Rattle.plane_geometry.specs.declared.point.Pt.{Pt}
use Rattle.plane_geometry.specs.EvenOdd.{all_segments, IsInside}
use Rattle.plane_geometry.proofs.Walk.{any_out}
use Rattle.rational_points.specs.RationalPoint.{RationalPoint, whole, LiesOn, LiesOnRings, LiesInside, MeetsRings}
use Rattle.rational_points.proofs.JoinedPoints.{joined_alike}
use Rattle.rational_points.proofs.SamePoints.{whole_alike, on_rings}
use Rattle.route_geometry.specs.declared.leg.Leg.{Leg}
use Rattle.route_geometry.specs.Area.{MeetsSome, MeetsArea}
use Rattle.route_geometry.specs.Parted.{meets_area}
use Rattle.route_geometry.specs.Points.{LiesInLeg, ReachesInside}
use Rattle.route_geometry.proofs.Points.{PointOf, met_point, point_meets, point_on_the_way}
use Rattle.route_geometry.proofs.Tested.{tested_area_is_met, met_area_is_tested}

one : (z : ℤ) → pos 1 *ℤ z ≡ z
one z = omega (arith, ints)

none : (z : ℤ) → pos 0 *ℤ z ≡ pos 0
none z = omega (arith, ints)

with_itself : (z : ℤ) → z -ℤ z ≡ pos 0
with_itself z = omega (arith, ints)

at_begin : (z y : ℤ) → pos 1 *ℤ (z -ℤ (pos 1 *ℤ z)) ≡ pos 0 *ℤ y
at_begin z y = one (z -ℤ (pos 1 *ℤ z)) ∙ ap (λ (x : ℤ). z -ℤ x) (one z) ∙ with_itself z ∙ sym (none y)

no_distance : (z : ℤ) (n : ℕ) → unsigned_abs (z -ℤ z) ≤ n
no_distance z n = rw (with_itself z) (omega arith)

-- the leg's first point is one of its points
pub first_in_leg : (leg : Leg) → LiesInLeg leg (whole leg.a)
first_in_leg leg = record {
  p = whole leg.a;
  on_the_way = record {
    d = 1;
    t = 0;
    parts = omega arith;
    on_the_way = omega arith;
    at_x = at_begin leg.a.x ((pos 1 *ℤ leg.b.x) -ℤ (pos 1 *ℤ leg.a.x));
    at_y = at_begin leg.a.y ((pos 1 *ℤ leg.b.y) -ℤ (pos 1 *ℤ leg.a.y));
  };
  near = record { near_x = no_distance (pos 1 *ℤ leg.a.x) ((1 * 1) * leg.w); near_y = no_distance (pos 1 *ℤ leg.a.y) ((1 * 1) * leg.h) };
}

-- a point of the widened leg that is on a ring, where the leg meets one
pub record OnRings (leg : Leg) (rings : List (List Pt)) : Type 0 where
  pub q : RationalPoint
  pub in_leg : LiesInLeg leg q
  pub on : LiesOnRings q rings

pub met_on_rings : (leg : Leg) (rings : List (List Pt)) → MeetsSome leg (all_segments rings) → OnRings leg rings
met_on_rings leg rings (k, s, within, is, met) =
    let point = met_point leg s.0 s.1 met in
    record {
      q = point.q;
      in_leg = point.in_leg;
      on = on_rings point.q rings (any_out (λ s. LiesOn point.q s.0 s.1) (all_segments rings) (k, s, within, is, point.on));
    }

-- without that, it is inside where the leg's first point is
pub inside_as_first : (leg : Leg) (rings : List (List Pt)) (q : RationalPoint) → ¬ MeetsSome leg (all_segments rings) → LiesInLeg leg q → LiesInside q rings ↔ IsInside leg.a rings
inside_as_first leg rings q none l =
    let alike = joined_alike (whole leg.a) q rings apart in
    let first = whole_alike leg.a rings in
    (λ h. first.0 (alike.1 h), λ h. alike.0 (first.1 h))
  where
    apart : ¬ MeetsRings (whole leg.a) q rings
    apart (k, s, within, is, common) =
        none (k, s, within, is, point_meets leg common.r s.0 s.1 (point_on_the_way leg q common.r l common.between) common.on)

pub met_reaches : (leg : Leg) (rings : List (List Pt)) → MeetsArea leg rings → ReachesInside leg rings
met_reaches leg rings (inl some) =
    let point = met_on_rings leg rings some in
    record { q = point.q; in_leg = point.in_leg; inside = inl point.on }
met_reaches leg rings (inr inside) =
    record { q = whole leg.a; in_leg = first_in_leg leg; inside = (whole_alike leg.a rings).1 inside }

pub reached_meets : (leg : Leg) (rings : List (List Pt)) → ReachesInside leg rings → MeetsArea leg rings
reached_meets leg rings r =
    elim (cases_Bool (meets_area leg rings)) [
      | inl tested ↦ tested_area_is_met leg rings tested
      | inr untested ↦
          let none : ¬ MeetsArea leg rings = λ met. false≢true (sym untested ∙ met_area_is_tested leg rings met) in
          absurd (none (inr ((inside_as_first leg rings r.q (λ some. none (inl some)) r.in_leg).0 r.inside)))
    ]

-- as the code asks
pub as_asked : (leg : Leg) (rings : List (List Pt)) (inside met : Bool) → (IsTrue inside ↔ IsInside leg.a rings) → (IsTrue met ↔ MeetsSome leg (all_segments rings)) → IsTrue (inside || met) ↔ ReachesInside leg rings
as_asked leg rings true met h k = (λ _. met_reaches leg rings (inr (h.0 refl)), λ _. refl)
as_asked leg rings false met h k = (
  λ e. met_reaches leg rings (inl (k.0 e)),
  λ r. elim (reached_meets leg rings r) [ inl some ↦ k.1 some | inr inside ↦ absurd (false≢true (h.1 inside)) ],
)
