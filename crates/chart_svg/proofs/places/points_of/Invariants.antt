use Rattle.std.proofs.Common.{◌≡◌, take, map}
use Rattle.area_rings.specs.Edge.{point_of}
use Rattle.chart_svg.proofs.places.points_of.Given as goal

abbrev pub invariant-loop-coord : goal.invariant-loop-coord
invariant-loop-coord l = l.points ≡ map point_of (take l.coord-index l.coords)
