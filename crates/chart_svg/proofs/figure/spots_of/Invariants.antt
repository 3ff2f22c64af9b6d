use Rattle.std.proofs.Common.{◌≡◌, take, map}
use Rattle.chart_svg.specs.View.{spot_of}
use Rattle.chart_svg.proofs.figure.spots_of.Given as goal

abbrev pub invariant-loop-point : goal.invariant-loop-point
invariant-loop-point l = l.spots.items ≡ map (spot_of l.view) (take l.point-index l.points)
