use Rattle.plane_geometry.proofs.Crossings.{crossing_place, place_crosses}
use Rattle.plane_geometry.proofs.laws.crossing_is_a_place.Goals as goal

pub returns : goal.returns
returns c = λ p a b. (crossing_place p a b, place_crosses p a b)
