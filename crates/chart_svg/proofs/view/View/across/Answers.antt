use Rattle.std.proofs.Common.{◌≡◌, ◌-ℤ◌, ◌*ℤ◌, ◌∙◌, pos, arith, to_z, of_z, w64}
use Rattle.std.specs.Prelude.{int_div}
use Rattle.std.proofs.lemmas.Int.{ints}
use Rattle.chart_svg.specs.View.{across}
use Rattle.chart_svg.proofs.view.View.across.Goals as goal

pub returns : goal.returns
unfolding across
returns c =
    let view = c.args.self.now in
    let distance : to_z w64 (of_z w64 (to_z w64 (of_z w64 c.args.x) -ℤ to_z w64 (of_z w64 c.from-west.result))) ≡ c.args.x -ℤ view.west = omega (arith, ints) in
    let breadth : to_z w64 (of_z w64 (to_z w64 (of_z w64 c.from-2.result) -ℤ to_z w64 (of_z w64 c.from-west.result))) ≡ view.east -ℤ view.west = omega (arith, ints) in
    let units : c.scaled.result ≡ int_div ((c.args.x -ℤ view.west) *ℤ pos view.width) (view.east -ℤ view.west) =
    rw (distance, breadth, c.from.ensures) at c.scaled.ensures in
    let whole : to_z w64 (of_z w64 c.scaled.result) ≡ c.scaled.result = omega (arith, ints) in
    whole ∙ units
