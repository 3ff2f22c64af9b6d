-- What is drawn of an item.
use Rattle.std.specs.Prelude.{ℕ, List, map, Option, Some, None}
use Rattle.chart_model.specs.declared.drawing.Item.{Item}
use Rattle.chart_model.specs.Cell.{CellValue}
use Rattle.plane_geometry.specs.declared.point.Pt.{Pt}
use Rattle.chart_svg.specs.declared.figure.Figure.{Figure}
use Rattle.chart_svg.specs.declared.figure.Figure.TheVariants.{Area, Lines, Symbols, Boxes}
use Rattle.chart_svg.specs.declared.figure.Fill.{Fill}
use Rattle.chart_svg.specs.declared.figure.Pen.{Pen}
use Rattle.chart_svg.specs.declared.look.Look.{Look}
use Rattle.chart_symbols.specs.declared.symbol.Symbol.{Symbol}
use Rattle.chart_svg.specs.declared.view.Spot.{Spot}
use Rattle.chart_svg.specs.declared.view.View.{View}
use Rattle.chart_svg.specs.View.{spot_of}
use Rattle.chart_svg.specs.Instruction.{fill_of, pen_of, drawn_symbol}
use Rattle.chart_svg.specs.Places.{rings_at, lines_at, places_at}

-- points of the chart in the picture
abbrev pub spots_of : View → List Pt → List Spot
spots_of view points = map (spot_of view) points

abbrev pub spot_lines_of : View → List (List Pt) → List (List Spot)
spot_lines_of view lines = map (spots_of view) lines

-- a symbol at some places, or a box where there is none
abbrev pub marks_with : List Spot → Option Symbol → Figure
marks_with spots None = Boxes spots
marks_with spots (Some symbol) = Symbols spots symbol.path symbol.colour

-- an area where the instruction fills one, lines where it draws these, and else a symbol
abbrev pub figure_by : View → Look → CellValue → ℕ → Item → Option Fill → Option Pen → Figure
figure_by view look cell rcid item (Some fill) pen = Area (spot_lines_of view (rings_at cell rcid item.target)) fill
figure_by view look cell rcid item None (Some pen) = Lines (spot_lines_of view (lines_at cell rcid item.target)) pen
figure_by view look cell rcid item None None =
    marks_with (spots_of view (places_at cell rcid item.target)) (drawn_symbol look item.text)

-- what is drawn of an item of the feature of a number
abbrev pub figure_of : View → Look → CellValue → ℕ → Item → Figure
figure_of view look cell rcid item =
    figure_by view look cell rcid item (fill_of look item.text) (pen_of look item.text)
