use Rattle.rational_points.proofs.SamePoints.{same_on_rings, same_inside}
use Rattle.rational_points.proofs.laws.same_points_are_alike.Goals as goal

pub returns-clause-on_rings : goal.returns-clause-on_rings
returns-clause-on_rings c = same_on_rings

pub returns-clause-inside : goal.returns-clause-inside
returns-clause-inside c = same_inside
