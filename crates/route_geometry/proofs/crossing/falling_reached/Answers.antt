use Rattle.std.proofs.Common.{pos, arith, rules, to_z, of_z, w64}
use mir.Syntax.{w128}
use mir.Val.{SFits}
use Rattle.std.proofs.lemmas.Int.{ints, to_z-of_z}
use Rattle.route_geometry.proofs.Forms.{tested}
use Rattle.route_geometry.proofs.Slopes.{reached_at_start, reached_at_crossing, start_of_falling, before_crossing}
use Rattle.route_geometry.proofs.crossing.falling_reached.Goals as goal

pub returns-then-f-ge0 : goal.returns-then-f-ge0
returns-then-f-ge0 c = (
  λ h. reached_at_start c.args.f c.args.g (omega (arith, ints)) (omega (arith, ints, h)),
  λ both. let start = start_of_falling c.args.f c.args.g c.requires.falls both in tested (pos 0) (to_z w64 (of_z w64 c.args.g.start)) (omega (arith, ints, start)),
)

pub returns-else-f-ge0 : goal.returns-else-f-ge0
returns-else-f-ge0 c =
    let f_start : SFits w64 c.args.f.start = search rules in
    let f_step : SFits w64 c.args.f.step = search rules in
    let g_start : SFits w64 c.args.g.start = search rules in
    let g_step : SFits w64 c.args.g.step = search rules in
    let left = simp to_z-of_z at c.wide_product.ensures in
    let right = simp to_z-of_z at c.wide_product-else-f-ge0.ensures in (
      λ h. reached_at_crossing c.args.f c.args.g (omega (arith, ints)) c.requires.reached (omega (arith, ints, h, left, right)),
      λ both. let before = before_crossing c.args.f c.args.g c.requires.rises c.requires.falls both in tested (to_z w128 (of_z w128 c.wide_product.result)) (to_z w128 (of_z w128 c.wide_product-else-f-ge0.result)) (omega (arith, ints, before, left, right)),
    )
