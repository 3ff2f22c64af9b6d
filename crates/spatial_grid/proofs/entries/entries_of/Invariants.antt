use Rattle.std.proofs.Common.{ℕ, ◌<◌}
use Rattle.spatial_grid.specs.Buckets.{IsEnteredAt}
use Rattle.spatial_grid.proofs.entries.entries_of.Given as goal

abbrev pub invariant-loop-place : goal.invariant-loop-place
invariant-loop-place l = (k : ℕ) → k < l.place → IsEnteredAt l.boxes l.rows l.columns k l.entries.items
