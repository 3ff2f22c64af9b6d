-- The state that a bank's checkpoint says.
use Rattle.std.specs.Prelude.{ℕ, Bool, true, if◌then◌else◌, List, [], ◌∷◌, Option, Some, None, is_none}
use Rattle.std.specs.List.{list_all}
use Rattle.std.specs.Option.{option_and_then}
use Rattle.std.specs.FinMap as map
use Rattle.chart_closure.specs.Closed.{closure_fault}
use Rattle.chart_model.specs.Cell.{CellValue}
use Rattle.chart_model.specs.State.{StateValue}
use Rattle.chart_pages.specs.Reading.{state_in}
use Rattle.chart_store.specs.Loaded.{HoldingsByKey, nothing_held}

-- whether a chart, if there is one, is closed
abbrev pub is_closed_chart : Option CellValue → Bool
is_closed_chart None = true
is_closed_chart (Some chart) = is_none (closure_fault chart)

-- whether each chart of the cells is
abbrev pub have_closed_charts : HoldingsByKey → Bool
have_closed_charts cells = list_all (λ entry. is_closed_chart entry.1.chart) (map.entries cells)

abbrev pub where_closed : StateValue → Option StateValue
where_closed state = if have_closed_charts state.cells then Some state else None

-- what is held by a checkpoint: nothing by one of no bytes, and else the state that the bytes spell, whose charts have to
-- be closed
unfoldable pub checkpoint_in : List ℕ → Option StateValue
checkpoint_in [] = Some nothing_held
checkpoint_in (byte ∷ bytes) = option_and_then where_closed (state_in (byte ∷ bytes))
