-- The lines of a leg, one after the other.
use Rattle.std.proofs.Common.{◌≡◌, List, [], ◌∷◌, ◌++◌, ℤ, ap, ◌∙◌}
use Rattle.route_geometry.specs.declared.leg.Leg.{Leg}
use Rattle.chart_svg.specs.declared.view.Spot.{Spot}
use Rattle.chart_svg.specs.declared.view.View.{View}
use Rattle.chart_svg.specs.Voyage.{leg_line}

-- one more, by a shift that is known otherwise, behind lines that are known otherwise
pub one_more : (view : View) (leg : Leg) (old new before : List (List Spot)) (x y x' y' : ℤ)
    → new ≡ old ++ leg_line view leg x y ∷ [] → old ≡ before → x ≡ x' → y ≡ y' → new ≡ before ++ leg_line view leg x' y' ∷ []
one_more view leg old new before x y x' y' pushed same east north =
    pushed
    ∙ ap (λ (lines : List (List Spot)). lines ++ leg_line view leg x y ∷ []) same
    ∙ ap (λ (z : ℤ). before ++ leg_line view leg z y ∷ []) east
    ∙ ap (λ (z : ℤ). before ++ leg_line view leg x' z ∷ []) north
