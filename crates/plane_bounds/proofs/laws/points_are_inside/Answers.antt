use Rattle.plane_bounds.proofs.Inside.{Decides-inside}
use Rattle.plane_bounds.proofs.laws.points_are_inside.Goals as goal

pub returns : goal.returns
returns c = Decides-inside
