use Rattle.std.proofs.Common.{◌≡◌, ℕ, ◌*◌, ◌-ℤ◌, ◌*ℤ◌, ◌∙◌, ap, pos, arith, to_z, of_z, w64}
use Rattle.std.specs.Prelude.{int_div}
use Rattle.std.proofs.lemmas.Int.{ints}
use Rattle.chart_svg.specs.Extent.{cosine_between}
use Rattle.chart_svg.specs.View.{down}
use Rattle.chart_svg.proofs.view.View.down.Goals as goal

pub returns : goal.returns
unfolding down
returns c =
    let view = c.args.self.now in
    let breadth : to_z w64 (of_z w64 (to_z w64 (of_z w64 c.from.result) -ℤ to_z w64 (of_z w64 c.from-2.result))) ≡ view.east -ℤ view.west = omega (arith, ints) in
    let shorter : c.shortened-breadth.result ≡ (view.east -ℤ view.west) *ℤ pos view.cosine = rw breadth at c.shortened-breadth.ensures.value in
    let whole : to_z w64 (of_z w64 c.shortened-breadth.result) ≡ c.shortened-breadth.result = omega (arith, ints) in
    let divisor : to_z w64 (of_z w64 c.shortened-breadth.result) ≡ (view.east -ℤ view.west) *ℤ pos (cosine_between view.south view.north) =
    whole ∙ shorter ∙ ap (λ (n : ℕ). (view.east -ℤ view.west) *ℤ pos n) view.stretched in
    let distance : to_z w64 (of_z w64 (to_z w64 (of_z w64 c.from-3.result) -ℤ to_z w64 (of_z w64 c.args.y))) ≡ view.north -ℤ c.args.y = omega (arith, ints) in
    let units : c.scaled.result ≡ int_div ((view.north -ℤ c.args.y) *ℤ pos (view.width * 10000)) ((view.east -ℤ view.west) *ℤ pos (cosine_between view.south view.north)) =
    rw (distance, divisor, c.from-4.ensures) at c.scaled.ensures in
    let kept : to_z w64 (of_z w64 c.scaled.result) ≡ c.scaled.result = omega (arith, ints) in
    kept ∙ units
