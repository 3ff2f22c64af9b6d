use Rattle.std.proofs.Common.{ℕ, ◌≤◌, ◌<◌}
use Rattle.spatial_grid.specs.Buckets.{Keeps, StandsAt}
use Rattle.spatial_grid.proofs.entries.push_row.Given as goal

abbrev pub invariant-loop-column : goal.invariant-loop-column
invariant-loop-column l = record {
  kept : Keeps l.initial.entries.items l.entries.items;
  there : (k : ℕ) → l.fn.columns.first ≤ k → k < l.column → StandsAt l.place l.row k l.entries.items;
}
