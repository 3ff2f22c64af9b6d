use Rattle.std.proofs.Common.{List}
use Rattle.plane_geometry.specs.declared.point.Pt.{Pt}
use Rattle.ring_strips.specs.Strips.{IsStrip, AreStrips}
use Rattle.ring_strips.proofs.cut.cut.Given as goal

abbrev pub invariant-loop-round : goal.invariant-loop-round
invariant-loop-round l = (rings : List (List Pt)) → IsStrip rings l.fn.whole → AreStrips rings l.each.items
