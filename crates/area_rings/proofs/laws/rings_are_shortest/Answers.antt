use Rattle.area_rings.proofs.RingLaw.{rings_told, rings_read}
use Rattle.area_rings.proofs.laws.rings_are_shortest.Goals as goal

pub returns : goal.returns
returns c = λ cell pointers rings. (rings_told cell pointers rings, rings_read cell pointers rings)
