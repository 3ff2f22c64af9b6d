use Rattle.std.proofs.Common.{take}
use Rattle.std.specs.List.{Contains}
use Rattle.depth_values.specs.Asked.{AreAsked}
use Rattle.depth_values.proofs.asked.push_extents.Given as goal

abbrev pub invariant-loop-place : goal.invariant-loop-place
invariant-loop-place l = AreAsked l.points l.extents (Contains (take l.place-index l.places)) l.initial.held.items l.held.items
