use Rattle.std.proofs.Common.{drop}
use Rattle.area_rings.proofs.RingsSoFar.{Rounds}
use Rattle.area_rings.proofs.ring.rings.Given as goal

abbrev pub invariant-loop-pointer : goal.invariant-loop-pointer
invariant-loop-pointer l = Rounds l.cell l.open l.rings l.points.items (drop l.pointer-index l.pointers) l.pointers
