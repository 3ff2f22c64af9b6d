use Rattle.std.proofs.Common.{◌≡◌, ℤ, int_le, w32, rules, Bool, true, false, ◌&&◌, List, Some, sym, ap, ◌∙◌, subst}
use mir.Val.{SFits}
use Rattle.std.specs.List.{list_any}
use Rattle.std.proofs.lemmas.Int.{to_z-of_z}
use Rattle.depth_values.specs.declared.depth_area.AreaMark.{AreaMark}
use Rattle.depth_values.specs.Under.{points_in, areas_holding, is_safe_among}
use Rattle.depth_values.specs.Hazard.{hazard_depth_by}
use Rattle.depth_values.proofs.Marks.{safe_told}
use Rattle.depth_values.proofs.HazardsUnder.{depth_told, deeper, no_deeper}
use Rattle.depth_values.proofs.hazard.is_danger_over_safe_area.Goals as goal

pub returns-then-safety_contour-depth_over : goal.returns-then-safety_contour-depth_over
returns-then-safety_contour-depth_over c =
    let contour : SFits w32 c.args.safety_contour = search rules in
    let depth : SFits w32 c.depth_over.result = search rules in
    let areas = c.args.areas.now in
    let shape = c.args.shape.now in
    let feature = c.args.feature.now in
    let over = c.depth_over.ensures in
    let is = over ∙ depth_told areas shape feature _ (c.as_slice.ensures.value ∙ c.in_ok-under.ensures) in
    let test = simp to_z-of_z at c.if-safety_contour-depth_over.true in
    let no : int_le (hazard_depth_by areas (Some shape) feature) c.args.safety_contour ≡ false =
    subst (λ (d : ℤ). int_le d c.args.safety_contour ≡ false) is (deeper c.args.safety_contour c.depth_over.result test) in
    ap (λ (b : Bool). b && is_safe_among areas c.args.safety_contour shape) (sym no)

pub returns : goal.returns
returns c =
    let contour : SFits w32 c.args.safety_contour = search rules in
    let depth : SFits w32 c.depth_over.result = search rules in
    let areas = c.args.areas.now in
    let shape = c.args.shape.now in
    let feature = c.args.feature.now in
    let over = c.depth_over.ensures in
    let is = over ∙ depth_told areas shape feature _ (c.as_slice.ensures.value ∙ c.in_ok-under.ensures) in
    let test = simp to_z-of_z at c.if-safety_contour-depth_over.false in
    let yes : int_le (hazard_depth_by areas (Some shape) feature) c.args.safety_contour ≡ true =
    subst (λ (d : ℤ). int_le d c.args.safety_contour ≡ true) is (no_deeper c.args.safety_contour c.depth_over.result test) in
    let any = simp to_z-of_z at c.is_any_safe.ensures in
    any
    ∙ ap (λ (marks : List AreaMark). list_any (λ (mark : AreaMark). int_le c.args.safety_contour mark.d1) marks) (c.as_slice-2.ensures.value ∙ c.in_ok-under.ensures)
    ∙ safe_told c.args.safety_contour (areas_holding (points_in shape) areas)
    ∙ ap (λ (b : Bool). b && is_safe_among areas c.args.safety_contour shape) (sym yes)
