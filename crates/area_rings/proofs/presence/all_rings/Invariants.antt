use Rattle.std.proofs.Common.{drop}
use Rattle.area_rings.proofs.Traces.{Remains}
use Rattle.area_rings.proofs.presence.all_rings.Given as goal

abbrev pub invariant-loop-pointer : goal.invariant-loop-pointer
invariant-loop-pointer l = Remains l.cell l.open (drop l.pointer-index l.pointers) l.pointers
