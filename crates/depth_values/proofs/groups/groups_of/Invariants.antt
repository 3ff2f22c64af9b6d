use Rattle.std.proofs.Common.{length}
use Rattle.depth_values.proofs.Grouped.{AreCovered}
use Rattle.depth_values.proofs.groups.groups_of.Given as goal

abbrev pub invariant-loop-rest : goal.invariant-loop-rest
invariant-loop-rest l = AreCovered l.extents l.initial.rest l.rest l.groups.items

abbrev pub decreases-loop-rest : goal.decreases-loop-rest
decreases-loop-rest l = length l.rest
