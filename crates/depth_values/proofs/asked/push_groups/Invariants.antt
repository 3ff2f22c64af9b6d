use Rattle.std.proofs.Common.{take}
use Rattle.depth_values.specs.Groups.{StandsIn}
use Rattle.depth_values.specs.Asked.{AreAsked}
use Rattle.depth_values.proofs.asked.push_groups.Given as goal

abbrev pub invariant-loop-group : goal.invariant-loop-group
invariant-loop-group l = AreAsked l.points l.extents (StandsIn (take l.group-index l.groups)) l.initial.held.items l.held.items
