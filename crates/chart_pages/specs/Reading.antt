-- The state that bytes spell, as a function.
use Rattle.std.specs.Prelude.{ℕ, ◌==◌, if◌then◌else◌, List, length, Option, Some, None}
use Rattle.std.specs.FinMap as map
use Rattle.chart_model.specs.declared.state.Holding.{Holding}
use Rattle.chart_model.specs.Keys.{key_cmp}
use Rattle.chart_model.specs.State.{StateValue}
use Rattle.page_parts.specs.Reader.{◌>>=◌}
use Rattle.page_parts.specs.Lists.{rising_entries_at}
use Rattle.chart_pages.specs.Cells.{cell_at}

abbrev pub state_of : map.FinMap key_cmp Holding → StateValue
state_of cells = record { cells = cells }

-- the cells, and nothing behind them
unfoldable pub state_in : List ℕ → Option StateValue
state_in bytes =
    rising_entries_at key_cmp cell_at bytes >>= λ read. if length read.1 == 0 then Some (state_of read.0) else None
