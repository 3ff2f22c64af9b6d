use Rattle.std.proofs.Common.{arith}
use Rattle.std.proofs.lemmas.Int.{ints}
use Rattle.route_geometry.proofs.Slopes.{end_of_rising}
use Rattle.route_geometry.proofs.crossing.both_reached.Goals as goal

pub returns-else-f-ge0 : goal.returns-else-f-ge0
returns-else-f-ge0 c = (
  λ h. absurd (omega (arith, ints, h)),
  λ (p, over, _). let end = end_of_rising c.args.f p c.requires over in absurd (omega (arith, ints)),
)
