use Rattle.std.proofs.Common.{◌+◌, length}
use Rattle.scene_sync.specs.Walk.{left_of}
use Rattle.scene_sync.proofs.Plans.{Continues}
use Rattle.scene_sync.proofs.change.calls_between.Given as goal

abbrev pub invariant-loop-key : goal.invariant-loop-key
invariant-loop-key l = Continues l.shown l.target l.calls.items l.old l.new

abbrev pub decreases-loop-key : goal.decreases-loop-key
decreases-loop-key l = length (left_of l.old) + length (left_of l.new)
