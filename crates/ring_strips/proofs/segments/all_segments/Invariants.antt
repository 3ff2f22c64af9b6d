use Rattle.std.proofs.Common.{◌≡◌, ◌++◌, drop}
use Rattle.plane_geometry.specs.EvenOdd.{all_segments}
use Rattle.ring_strips.proofs.segments.all_segments.Given as goal

abbrev pub invariant-loop-ring : goal.invariant-loop-ring
invariant-loop-ring l = l.all.items ++ all_segments (drop l.ring-index l.rings) ≡ all_segments l.rings
