-- A box round an area that doesn't hold an end of a leg tells that the area doesn't cover it.
use Rattle.std.proofs.Common.{◌≡◌, ◌↔◌, ℕ, ◌*◌, ◌≤◌, ℤ, pos, ◌-ℤ◌, ◌*ℤ◌, unsigned_abs, Bool, false, List, sym, ◌∙◌, arith, IsTrue}
use Rattle.std.proofs.lemmas.Int.{ints}
use Rattle.std.proofs.lemmas.Bool.{false≢true, false_from_ne_true}
use Rattle.plane_geometry.specs.declared.point.Pt.{Pt}
use Rattle.plane_bounds.specs.declared.bounds.Bounds.{Bounds}
use Rattle.plane_bounds.specs.Bounds.{IsIn, RingsIn}
use Rattle.plane_bounds.proofs.Outside.{inside_in_bounds}
use Rattle.rational_points.specs.RationalPoint.{whole}
use Rattle.rational_points.proofs.SamePoints.{whole_alike}
use Rattle.route_geometry.specs.declared.leg.Leg.{Leg}
use Rattle.route_geometry.specs.Points.{LiesInLeg}
use Rattle.route_geometry.proofs.AreaPoints.{first_in_leg}
use Rattle.coverage_points.specs.Cover.{is_covered}
use Rattle.coverage_points.proofs.Covering.{Decides-covered}

-- a test that says no
pub not_so : {P : Type 0} {b : Bool} → (IsTrue b ↔ P) → b ≡ false → ¬ P
not_so {P} {b} tells none so = false≢true (sym none ∙ tells.1 so)

ends_at : (a b : ℤ) → pos 1 *ℤ (b -ℤ (pos 1 *ℤ a)) ≡ pos 1 *ℤ ((pos 1 *ℤ b) -ℤ (pos 1 *ℤ a))
ends_at a b = omega (arith, ints)

no_distance : (z : ℤ) (n : ℕ) → unsigned_abs (z -ℤ z) ≤ n
no_distance z n = rw (with_itself) (omega arith)
  where
    with_itself : z -ℤ z ≡ pos 0
    with_itself = omega (arith, ints)

-- the leg's last point is one of its points
last_in_leg : (leg : Leg) → LiesInLeg leg (whole leg.b)
last_in_leg leg = record {
  p = whole leg.b;
  on_the_way = record {
    d = 1;
    t = 1;
    parts = omega arith;
    on_the_way = omega arith;
    at_x = ends_at leg.a.x leg.b.x;
    at_y = ends_at leg.a.y leg.b.y;
  };
  near = record { near_x = no_distance (pos 1 *ℤ leg.b.x) ((1 * 1) * leg.w); near_y = no_distance (pos 1 *ℤ leg.b.y) ((1 * 1) * leg.h) };
}

module _ (leg : Leg) (rings : List (List Pt)) (bounds : Bounds) where
  -- where a point of the leg isn't in a box that the rings are in they don't cover it
  far_covers_not : RingsIn bounds rings → (p : Pt) → LiesInLeg leg (whole p) → ¬ IsIn bounds p → false ≡ is_covered leg rings
  far_covers_not within p there out =
      sym
      (false_from_ne_true (is_covered leg rings) (λ is.
      out (inside_in_bounds bounds p rings within ((whole_alike p rings).0 (((Decides-covered leg rings).0 is).inside (whole p) there)))))

  pub far_first : RingsIn bounds rings → ¬ IsIn bounds leg.a → false ≡ is_covered leg rings
  far_first within out = far_covers_not within leg.a (first_in_leg leg) out

  pub far_last : RingsIn bounds rings → ¬ IsIn bounds leg.b → false ≡ is_covered leg rings
  far_last within out = far_covers_not within leg.b (last_in_leg leg) out
