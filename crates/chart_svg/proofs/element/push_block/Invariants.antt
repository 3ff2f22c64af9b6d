use Rattle.std.proofs.Common.{◌≡◌, ◌++◌, take, map}
use Rattle.chart_svg.specs.Element.{item_element}
use Rattle.chart_svg.proofs.element.push_block.Given as goal

abbrev pub invariant-loop-item : goal.invariant-loop-item
invariant-loop-item l =
    l.elements ≡ l.initial.elements ++ map (item_element l.view l.look l.chart.key l.chart.cell.now l.drawn.rcid) (take l.item-index l.item-items)
