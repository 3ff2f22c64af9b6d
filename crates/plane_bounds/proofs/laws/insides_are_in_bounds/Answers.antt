use Rattle.plane_bounds.proofs.Outside.{inside_in_bounds}
use Rattle.plane_bounds.proofs.laws.insides_are_in_bounds.Goals as goal

pub returns : goal.returns
returns c = inside_in_bounds
