use Rattle.std.proofs.Common.{◌≡◌, take}
use Rattle.std.specs.List.{flat_map}
use Rattle.chart_svg.specs.Element.{drawing_elements}
use Rattle.chart_svg.proofs.voyage.elements_of.Given as goal

abbrev pub invariant-loop-chart : goal.invariant-loop-chart
invariant-loop-chart l = l.elements ≡ flat_map (drawing_elements l.view l.look) (take l.chart-index l.charts)
