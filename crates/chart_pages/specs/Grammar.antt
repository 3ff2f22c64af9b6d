-- The bytes that spell a state: a checkpoint's.
use Rattle.std.specs.Prelude.{◌≡◌, ℕ, List}
use Rattle.std.specs.FinMap as map
use Rattle.chart_model.specs.State.{IsState, StateValue}
use Rattle.page_parts.specs.Lists.{AreInRange, rising_entries}
use Rattle.chart_pages.specs.Cells.{IsCellInRange, cell}

-- a count of cells, and the cells in the order of their keys
unfoldable pub spelling : StateValue → List ℕ
spelling state = rising_entries cell state.cells

-- the bytes are the state's, which is one that can be held, and whose numbers are within their widths
pub record Spells (bytes : List ℕ) (state : StateValue) : Type 0 where
  pub spelled : bytes ≡ spelling state
  pub held : IsState state
  pub in_range : AreInRange IsCellInRange (map.entries state.cells)
