use Rattle.std.proofs.Common.{drop}
use Rattle.plane_geometry.specs.EvenOdd.{segments}
use Rattle.plane_geometry.proofs.Walk.{Remains, line_from}
use Rattle.plane_geometry.proofs.even_odd.crosses_odd.Given as goal

abbrev pub invariant-loop-to : goal.invariant-loop-to
invariant-loop-to l = Remains l.p l.odd (line_from l.from (drop l.to-index l.ring)) (segments l.ring)
