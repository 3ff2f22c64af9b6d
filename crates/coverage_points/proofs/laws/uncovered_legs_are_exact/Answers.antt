use Rattle.coverage_points.proofs.Numbers.{numbers_are}
use Rattle.coverage_points.proofs.laws.uncovered_legs_are_exact.Goals as goal

pub returns : goal.returns
returns c = numbers_are
