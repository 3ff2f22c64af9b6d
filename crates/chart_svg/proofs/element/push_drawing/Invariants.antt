use Rattle.std.proofs.Common.{◌≡◌, ◌++◌, take}
use Rattle.std.specs.List.{flat_map}
use Rattle.chart_svg.specs.Element.{block_elements}
use Rattle.chart_svg.proofs.element.push_drawing.Given as goal

abbrev pub invariant-loop-drawn : goal.invariant-loop-drawn
invariant-loop-drawn l =
    l.elements ≡ l.initial.elements ++ flat_map (block_elements l.view l.look l.chart) (take l.drawn-index l.drawn-items)
