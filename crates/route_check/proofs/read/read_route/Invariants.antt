-- The lines that were read, and what they say.
use Rattle.std.proofs.Common.{length}
use Rattle.route_check.proofs.Progress.{IsReadSoFar}
use Rattle.route_check.proofs.read.read_route.Given as goal

abbrev pub invariant-loop-line : goal.invariant-loop-line
invariant-loop-line l = IsReadSoFar l.fn.bytes l.draft l.number l.rest

abbrev pub decreases-loop-line : goal.decreases-loop-line
decreases-loop-line l = length l.rest
