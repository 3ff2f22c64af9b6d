use Rattle.std.proofs.Common.{ℕ, take}
use Rattle.std.specs.List.{Contains}
use Rattle.depth_values.specs.Groups.{IsRound}
use Rattle.depth_values.proofs.groups.bounds_round.Given as goal

abbrev pub invariant-loop-place : goal.invariant-loop-place
invariant-loop-place l = (k : ℕ) → Contains (take l.place-index l.places) k → IsRound l.extents l.bounds k
