use Rattle.std.proofs.Common.{◌≡◌, ◌++◌}
use Rattle.std.specs.List.{filter_map}
use Rattle.spatial_grid.specs.Boxes.{entry_at, boxes_in}
use Rattle.spatial_grid.proofs.boxes.boxes_of.Given as goal

abbrev pub invariant-loop-name : goal.invariant-loop-name
invariant-loop-name l = l.boxes.items ++ filter_map (entry_at l.cell) l.name-iterator ≡ boxes_in l.cell
