use Rattle.std.proofs.Common.{◌+◌, ◌≤◌, length}
use Rattle.spatial_grid.proofs.Telling.{AreToldBefore}
use Rattle.spatial_grid.proofs.candidates.push_entries.Given as goal

abbrev pub invariant-loop-entry : goal.invariant-loop-entry
invariant-loop-entry l =
    AreToldBefore l.boxes l.area l.entries l.entry-index l.initial.names.items l.names.items
    × (length l.names.items ≤ length l.initial.names.items + l.entry-index)
