-- A leg is covered where its first point is inside and it meets no segment of the rings.
use Rattle.std.proofs.Common.{◌↔◌, Bool, ◌&&◌, not, List, IsTrue}
use Rattle.std.specs.Bool.{Decides}
use Rattle.std.specs.List.{list_any}
use Rattle.std.proofs.lemmas.Bool.Decides.{Decides-and, Decides-not, Decides-like}
use Rattle.std.proofs.lemmas.List.Folds.{Any-from_list_any, list_any-from_Any}
use Rattle.plane_geometry.specs.declared.point.Pt.{Pt}
use Rattle.plane_geometry.specs.EvenOdd.{all_segments, IsInside}
use Rattle.plane_geometry.proofs.Walk.{any_in}
use Rattle.plane_bounds.proofs.Inside.{Decides-inside}
use Rattle.rational_points.specs.RationalPoint.{whole, LiesOn}
use Rattle.rational_points.proofs.ScaledRings.{any_then}
use Rattle.rational_points.proofs.JoinedPoints.{rings_on}
use Rattle.rational_points.proofs.SamePoints.{whole_alike}
use Rattle.route_geometry.specs.declared.leg.Leg.{Leg}
use Rattle.route_geometry.specs.Leg.{MeetsSegment}
use Rattle.route_geometry.specs.Area.{MeetsSome}
use Rattle.route_geometry.specs.Parted.{meets_segment}
use Rattle.route_geometry.proofs.Points.{point_meets}
use Rattle.route_geometry.proofs.AreaPoints.{first_in_leg, met_on_rings, inside_as_first}
use Rattle.route_geometry.proofs.Tested.{tested_is_met, met_is_tested}
use Rattle.coverage_points.specs.Cover.{IsCovered, is_covered}

module _ (leg : Leg) (rings : List (List Pt)) where
  -- the leg's first point is inside, and it meets no segment
  abbrev pub IsClear : Type 0
  IsClear = IsInside leg.a rings × (¬ MeetsSome leg (all_segments rings))

  pub clear_covers : IsClear → IsCovered leg rings
  clear_covers clear = record {
    inside = λ q l. (inside_as_first leg rings q clear.1 l).1 clear.0;
    off_rings = λ q l on.
        clear.1 (any_in (λ s. MeetsSegment leg s.0 s.1) (all_segments rings) (any_then (λ s. LiesOn q s.0 s.1) (λ s. MeetsSegment leg s.0 s.1) (all_segments rings) (λ s h. point_meets leg q s.0 s.1 l h) (rings_on q rings on)));
  }

  none_met : IsCovered leg rings → ¬ MeetsSome leg (all_segments rings)
  none_met c some =
      let point = met_on_rings leg rings some in
      c.off_rings point.q point.in_leg point.on

  pub covered_clear : IsCovered leg rings → IsClear
  covered_clear c = ((whole_alike leg.a rings).0 (c.inside (whole leg.a) (first_in_leg leg)), none_met c)

  Decides-met : Decides (list_any (λ s. meets_segment leg s.0 s.1) (all_segments rings)) (MeetsSome leg (all_segments rings))
  Decides-met = (
    λ e. let a = Any-from_list_any (λ s. meets_segment leg s.0 s.1) (all_segments rings) e in (a.0, a.1, a.2, a.3, tested_is_met leg a.1.0 a.1.1 a.4),
    λ a. list_any-from_Any (λ s. meets_segment leg s.0 s.1) (all_segments rings) (a.0, a.1, a.2, a.3, met_is_tested leg a.1.0 a.1.1 a.4),
  )

  -- the test says which legs are covered
  pub Decides-covered : Decides (is_covered leg rings) (IsCovered leg rings)
  unfolding is_covered
  Decides-covered =
      Decides-like _ clear_covers covered_clear
      (Decides-and _ _ (Decides-inside leg.a rings) (Decides-not _ Decides-met))

  -- what the code asks decides it too
  pub asked_covers : (inside met : Bool) → (IsTrue inside ↔ IsInside leg.a rings) → (IsTrue met ↔ MeetsSome leg (all_segments rings)) → IsTrue (inside && not met) ↔ IsCovered leg rings
  asked_covers inside met h k = Decides-like _ clear_covers covered_clear (Decides-and inside (not met) h (Decides-not met k))
