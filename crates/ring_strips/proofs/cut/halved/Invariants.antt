use Rattle.std.proofs.Common.{List}
use Rattle.plane_geometry.specs.declared.point.Pt.{Pt}
use Rattle.ring_strips.specs.Strips.{AreStrips}
use Rattle.ring_strips.proofs.cut.halved.Given as goal

abbrev pub invariant-loop-strip : goal.invariant-loop-strip
invariant-loop-strip l = (rings : List (List Pt)) → AreStrips rings l.strips → AreStrips rings l.halves.items
