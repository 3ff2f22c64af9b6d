use Rattle.rational_points.proofs.JoinedPoints.{joined_alike}
use Rattle.rational_points.proofs.laws.joined_points_are_alike.Goals as goal

pub returns : goal.returns
returns c = joined_alike
