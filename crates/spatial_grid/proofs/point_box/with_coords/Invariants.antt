use Rattle.std.proofs.Common.{◌≡◌, drop, map}
use Rattle.std.specs.List.{fold}
use Rattle.area_rings.specs.Edge.{point_of}
use Rattle.spatial_grid.specs.Boxes.{box_with}
use Rattle.spatial_grid.proofs.point_box.with_coords.Given as goal

abbrev pub invariant-loop-coord : goal.invariant-loop-coord
invariant-loop-coord l =
    fold box_with l.bounds (map point_of (drop l.coord-index l.coords)) ≡ fold box_with l.fn.found (map point_of l.coords)
