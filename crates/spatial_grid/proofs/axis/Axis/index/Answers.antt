use Rattle.std.proofs.Common.{◌≡◌, ◌/◌, min, w64, rules, ℤ, ◌-ℤ◌, unsigned_abs, ap, ◌∙◌}
use mir.Val.{SFits}
use Rattle.std.proofs.lemmas.Int.{to_z-of_z}
use Rattle.spatial_grid.specs.Buckets.{index_on}
use Rattle.spatial_grid.proofs.axis.Axis.index.Goals as goal

pub returns-clause-is : goal.returns-clause-is
unfolding index_on
returns-clause-is c =
    let low : SFits w64 c.args.self.low = search rules in
    let high : SFits w64 c.args.self.high = search rules in
    let n : SFits w64 c.args.n = c.ranges.n in
    let at : SFits w64 c.clamped.result = search rules in
    let clamped = simp to_z-of_z at c.clamped.ensures in
    let far : c.distance.result ≡ unsigned_abs (c.clamped.result -ℤ c.args.self.low) = simp to_z-of_z at c.distance.ensures in
    let from = far ∙ ap (λ (z : ℤ). unsigned_abs (z -ℤ c.args.self.low)) clamped in
    let wide = c.max.ensures in
    c.min.ensures ∙ (λ i. min (from i / wide i) 63)
