use Rattle.std.proofs.Common.{◌≡◌, ◌+ℤ◌, arith, to_z, of_z, w64}
use Rattle.std.proofs.lemmas.Int.{ints}
use Rattle.chart_svg.proofs.legs.shifted.Goals as goal

pub returns : goal.returns
returns c =
    let x : to_z w64 (of_z w64 (to_z w64 (of_z w64 c.from.result) +ℤ to_z w64 (of_z w64 c.args.x))) ≡ c.args.p.x +ℤ c.args.x = omega (arith, ints) in
    let y : to_z w64 (of_z w64 (to_z w64 (of_z w64 c.from-2.result) +ℤ to_z w64 (of_z w64 c.args.y))) ≡ c.args.p.y +ℤ c.args.y = omega (arith, ints) in
    rw (x, y) at c.spot_at.ensures
