use Rattle.std.proofs.Common.{All, take}
use Rattle.plane_bounds.specs.Bounds.{IsIn}
use Rattle.area_rings.specs.Edge.{point_of}
use Rattle.route_check.proofs.target.bounds_of_coords.Given as goal

abbrev pub invariant-loop-coord : goal.invariant-loop-coord
invariant-loop-coord l = All (λ coord. IsIn l.bounds (point_of coord)) (take l.coord-index l.coords)
