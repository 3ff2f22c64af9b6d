-- The charts that a picture shows.
use Rattle.std.specs.Prelude.{ℕ, List, [], ◌∷◌, Option, Some, None}
use Rattle.std.specs.List.{flat_map}
use Rattle.std.specs.FinMap as finite
use Rattle.chart_model.specs.Cell.{CellValue}
use Rattle.chart_model.specs.declared.settings.Settings.{Settings}
use Rattle.chart_model.specs.declared.state.Holding.{Holding}
use Rattle.chart_store.specs.Loaded.{HoldingsByKey}
use Rattle.chart_svg.specs.declared.chart.Chart.{Chart}
use Rattle.draw_list.specs.Drawing.{drawing_of}
use Rattle.draw_list.specs.declared.drawing.Drawn.{Drawn}
use Rattle.lookup_table.specs.declared.line.TableLine.{TableLine}

-- a chart under its key, and its drawing
pub record ChartValue : Type 0 where
  pub key : List ℕ
  pub cell : CellValue
  pub drawing : List Drawn

abbrev pub value_of_chart : Chart → ChartValue
value_of_chart chart = record { key = chart.key; cell = chart.cell.now; drawing = chart.drawing }

-- the chart of a cell with its drawing; none where there is no chart
abbrev pub drawn_chart : List TableLine → Settings → List ℕ → Option CellValue → List ChartValue
drawn_chart table settings key None = []
drawn_chart table settings key (Some cell) =
    record { key = key; cell = cell; drawing = drawing_of cell table settings } ∷ []

abbrev pub drawn_holding : List TableLine → Settings → List ℕ × Holding → List ChartValue
drawn_holding table settings held = drawn_chart table settings held.0 held.1.chart

-- those of all cells that are held, in the order of their keys
abbrev pub charts_in : List TableLine → Settings → HoldingsByKey → List ChartValue
charts_in table settings cells = flat_map (drawn_holding table settings) (finite.entries cells)
