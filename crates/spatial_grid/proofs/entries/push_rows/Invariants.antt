use Rattle.std.proofs.Common.{ℕ, ◌≤◌, ◌<◌}
use Rattle.spatial_grid.specs.Buckets.{Keeps, StandsAcross}
use Rattle.spatial_grid.proofs.entries.push_rows.Given as goal

abbrev pub invariant-loop-row : goal.invariant-loop-row
invariant-loop-row l = record {
  kept : Keeps l.initial.entries.items l.entries.items;
  there : (k : ℕ) → l.fn.rows.first ≤ k → k < l.row
      → StandsAcross l.place k l.fn.columns.first l.fn.columns.last l.entries.items;
}
