use Rattle.std.proofs.Common.{drop}
use Rattle.plane_geometry.specs.EvenOdd.{all_segments}
use Rattle.plane_geometry.proofs.Walk.{Remains}
use Rattle.plane_geometry.proofs.even_odd.inside_even_odd.Given as goal

abbrev pub invariant-loop-ring : goal.invariant-loop-ring
invariant-loop-ring l = Remains l.p l.odd (all_segments (drop l.ring-index l.rings)) (all_segments l.rings)
