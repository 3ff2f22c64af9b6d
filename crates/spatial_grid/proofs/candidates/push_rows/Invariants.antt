use Rattle.std.proofs.Common.{◌+◌, ◌≤◌, length}
use Rattle.spatial_grid.proofs.Looking.{AreCounted}
use Rattle.spatial_grid.proofs.Telling.{AreToldRows}
use Rattle.spatial_grid.proofs.candidates.push_rows.Given as goal

abbrev pub invariant-loop-row : goal.invariant-loop-row
invariant-loop-row l =
    AreToldRows l.boxes l.area l.entries l.fn.rows.first l.row l.fn.columns.first l.fn.columns.last l.initial.names.items l.names.items
    × AreCounted l.entries l.fn.rows.first l.fn.rows.last l.row l.fn.columns.first l.fn.columns.last l.looked_at
    × (length l.names.items ≤ length l.initial.names.items + l.looked_at)
