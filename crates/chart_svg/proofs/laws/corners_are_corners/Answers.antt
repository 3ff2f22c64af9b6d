use Rattle.std.proofs.Common.{◌≡◌, ℤ, pos, ◌-ℤ◌, ◌*ℤ◌, ◌*◌, ap, ◌∙◌, arith}
use Rattle.std.specs.Prelude.{◌<ℤ◌, int_div}
use Rattle.std.proofs.lemmas.Int.{ints}
use Rattle.chart_svg.specs.Extent.{cosine_between}
use Rattle.chart_svg.specs.View.{across, down}
use Rattle.chart_svg.proofs.Quotients.{no_distance, nothing_scaled, product_divided}
use Rattle.chart_svg.proofs.laws.corners_are_corners.Goals as goal

pub returns-clause-west : goal.returns-clause-west
unfolding across
returns-clause-west c = λ view.
    ap (λ (z : ℤ). int_div (z *ℤ pos view.width) (view.east -ℤ view.west)) (no_distance view.west)
    ∙ nothing_scaled view.width (view.east -ℤ view.west)

pub returns-clause-east : goal.returns-clause-east
unfolding across
returns-clause-east c = λ view. product_divided (view.east -ℤ view.west) view.width (omega (arith, ints, view.shown.wide))

pub returns-clause-north : goal.returns-clause-north
unfolding down
returns-clause-north c = λ view.
    let breadth = (view.east -ℤ view.west) *ℤ pos (cosine_between view.south view.north) in
    ap (λ (z : ℤ). int_div (z *ℤ pos (view.width * 10000)) breadth) (no_distance view.north)
    ∙ nothing_scaled (view.width * 10000) breadth
