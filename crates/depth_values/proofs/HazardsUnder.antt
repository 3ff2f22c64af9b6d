-- The depth over a hazard, by the areas under it.
use Rattle.std.proofs.Common.{◌≡◌, ℤ, negsuc, int_le, Bool, true, false, ◌&&◌, cond, List, ◌∷◌, map, Option, Some, None, refl, ap, ◌∙◌, arith}
use Rattle.std.specs.Prelude.{int_lt, is_none, unwrap_or}
use Rattle.std.proofs.lemmas.Int.{ints}
use Rattle.chart_model.specs.declared.cell.Feature.{Feature}
use Rattle.chart_model.specs.Answers.{first_of}
use Rattle.area_rings.specs.declared.shape.Shape.{Shape}
use Rattle.depth_values.specs.DepthArea.{AreaValue}
use Rattle.depth_values.specs.declared.depth_area.AreaMark.{AreaMark}
use Rattle.depth_values.specs.Marks.{mark_of}
use Rattle.depth_values.specs.Under.{points_in, areas_holding, least, least_among}
use Rattle.depth_values.specs.Hazard.{sounding_of, lies_at_bottom, assumed_depths, asks_areas, first_depth, hazard_depth_by}
use Rattle.depth_values.proofs.Marks.{depths_told}

by_cases : (sounding below : Option ℤ) (bottom : Bool) (rest : List (Option ℤ))
    → unwrap_or (first_of (sounding ∷ cond (is_none sounding && bottom) below None ∷ rest)) (negsuc 1499)
    ≡ unwrap_or (first_of (sounding ∷ cond bottom below None ∷ rest)) (negsuc 1499)
by_cases (Some depth) below bottom rest = refl
by_cases None below bottom rest = refl

-- where the areas aren't asked, they say nothing
pub depth_over_is : (areas : List AreaValue) (shape : Shape) (feature : Feature)
    → first_depth feature (cond (asks_areas feature) (least_among areas shape) None) ≡ hazard_depth_by areas (Some shape) feature
depth_over_is areas shape feature =
    by_cases (sounding_of feature) (least_among areas shape) (lies_at_bottom feature) (assumed_depths feature)

-- what is told of the areas under a shape gives the depth over a hazard
pub depth_told : (areas : List AreaValue) (shape : Shape) (feature : Feature) (marks : List AreaMark)
    → marks ≡ map mark_of (areas_holding (points_in shape) areas)
    → first_depth feature (cond (asks_areas feature) (least (map (λ (mark : AreaMark). mark.d1) marks)) None)
    ≡ hazard_depth_by areas (Some shape) feature
depth_told areas shape feature marks are =
    ap (λ (depths : List ℤ). first_depth feature (cond (asks_areas feature) (least depths) None))
    (ap (map (λ (mark : AreaMark). mark.d1)) are ∙ depths_told (areas_holding (points_in shape) areas))
    ∙ depth_over_is areas shape feature

pub deeper : (contour depth : ℤ) → int_lt contour depth ≡ true → int_le depth contour ≡ false
deeper contour depth e = grind (arith, ints)

pub no_deeper : (contour depth : ℤ) → int_lt contour depth ≡ false → int_le depth contour ≡ true
no_deeper contour depth e = grind (arith, ints)
