use Rattle.rational_points.proofs.SamePoints.{whole_alike}
use Rattle.rational_points.proofs.laws.whole_points_are_alike.Goals as goal

pub returns : goal.returns
returns c = whole_alike
