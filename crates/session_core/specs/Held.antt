-- Charts that are held.
use Rattle.std.specs.Prelude.{ℕ, List, Option, option_and_then}
use Rattle.std.specs.FinMap as map
use Rattle.chart_model.specs.Cell.{CellValue}
use Rattle.chart_model.specs.declared.state.Holding.{Holding}
use Rattle.chart_store.specs.Loaded.{HoldingsByKey}

-- the chart of a cell, where the cell is held and not cancelled
abbrev pub chart_of : HoldingsByKey → List ℕ → Option CellValue
chart_of cells key = option_and_then (λ (here : Holding). here.chart) (map.get cells key)
