use Rattle.std.proofs.Common.{pos, ◌+ℤ◌, arith, to_z, of_z, w64}
use Rattle.std.proofs.lemmas.Int.{ints}
use Rattle.route_geometry.proofs.Forms.{tested}
use Rattle.route_geometry.proofs.Slopes.{reached_at_end, end_of_rising}
use Rattle.route_geometry.proofs.crossing.second_reached.Goals as goal

pub returns-else-g-lt0 : goal.returns-else-g-lt0
returns-else-g-lt0 c = (
  λ h. reached_at_end c.args.f c.args.g c.requires.reached (omega (arith, ints, h)),
  λ (p, _, over). let end = end_of_rising c.args.g p (omega (arith, ints)) over in tested (pos 0) (to_z w64 (of_z w64 (to_z w64 (of_z w64 c.args.g.start) +ℤ to_z w64 (of_z w64 c.args.g.step)))) (omega (arith, ints, end)),
)
