use Rattle.std.proofs.Common.{◌≡◌, ◌++◌}
use Rattle.std.specs.List.{filter_map}
use Rattle.depth_values.specs.Under.{area_at, areas_of}
use Rattle.depth_values.proofs.made.depth_areas.Given as goal

abbrev pub invariant-loop-name : goal.invariant-loop-name
invariant-loop-name l = l.list ++ filter_map (area_at l.cell) l.name-iterator ≡ areas_of l.cell
