use Rattle.std.proofs.Common.{◌≡◌, take, map}
use Rattle.chart_svg.specs.Figure.{spots_of}
use Rattle.chart_svg.proofs.figure.spot_lines_of.Given as goal

abbrev pub invariant-loop-line : goal.invariant-loop-line
invariant-loop-line l = l.spots ≡ map (spots_of l.view) (take l.line-index l.lines)
