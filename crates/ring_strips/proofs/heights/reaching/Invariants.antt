use Rattle.std.proofs.Common.{◌≡◌, take, filter}
use Rattle.ring_strips.specs.Strips.{reaches}
use Rattle.ring_strips.proofs.heights.reaching.Given as goal

abbrev pub invariant-loop-segment : goal.invariant-loop-segment
invariant-loop-segment l = l.reaching.items ≡ filter (reaches l.low l.high) (take l.segment-index l.segments)
