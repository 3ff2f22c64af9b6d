use Rattle.coverage_points.proofs.Covering.{Decides-covered}
use Rattle.coverage_points.proofs.laws.covered_legs_are_tested.Goals as goal

pub returns : goal.returns
returns c = Decides-covered
