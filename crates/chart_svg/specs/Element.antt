-- The elements of a drawing.
use Rattle.std.specs.Prelude.{ℕ, List, map}
use Rattle.std.specs.List.{flat_map}
use Rattle.chart_model.specs.declared.drawing.Item.{Item}
use Rattle.chart_model.specs.Cell.{CellValue}
use Rattle.draw_list.specs.declared.drawing.Drawn.{Drawn}
use Rattle.chart_svg.specs.declared.chart.Chart.{Chart}
use Rattle.chart_svg.specs.declared.element.Element.{Element}
use Rattle.chart_svg.specs.declared.element.Origin.{Origin}
use Rattle.chart_svg.specs.declared.element.Origin.TheVariants.{FromItem}
use Rattle.chart_svg.specs.declared.look.Look.{Look}
use Rattle.chart_svg.specs.declared.view.View.{View}
use Rattle.chart_svg.specs.Figure.{figure_of}

-- the element of an item: its cell, the number of its feature and its instruction, and what is drawn
abbrev pub item_element : View → Look → List ℕ → CellValue → ℕ → Item → Element
item_element view look key cell rcid item = record {
  origin = FromItem key rcid item.text;
  figure = figure_of view look cell rcid item;
}

-- one element for each item of a block, in their order
abbrev pub block_elements : View → Look → Chart → Drawn → List Element
block_elements view look chart drawn =
    map (item_element view look chart.key chart.cell.now drawn.rcid) drawn.block.items

-- one element for each item of a chart's drawing, in the drawing's order
abbrev pub drawing_elements : View → Look → Chart → List Element
drawing_elements view look chart = flat_map (block_elements view look chart) chart.drawing
