-- A cell that can be put in place without memory.
use Rattle.std.specs.Prelude.{Option, None, IsSome}
use Rattle.std.specs.FinMap as map
use Rattle.chart_model.specs.Cell.{CellValue}
use Rattle.chart_model.specs.State.{StateValue}
use Rattle.chart_store.specs.declared.prepared.Prepared.{Prepared}
use Rattle.chart_store.specs.declared.prepared.Prepared.TheVariants.{New, Known}
use Rattle.chart_store.specs.Next.{cells_with, CanStand}
use Rattle.chart_store.specs.Loaded.{chart_of}

-- what is held once it is put in place
abbrev pub with_prepared : StateValue → Prepared → StateValue
with_prepared state (New key bytes) = state
with_prepared state (Known key holding bytes) = record { cells = cells_with state.cells key holding }

-- what is held once it is given up
abbrev pub without_prepared : StateValue → Prepared → StateValue
without_prepared state (New key bytes) = record { cells = map.remove state.cells key }
without_prepared state (Known key holding bytes) = state

-- it can be put in place, and given up, without memory
abbrev pub IsPrepared : StateValue → Prepared → Type 0
IsPrepared state (New key bytes) = CanStand state.cells key None bytes
IsPrepared state (Known key holding bytes) = CanStand state.cells key holding bytes × IsSome (map.get state.cells key)

-- the chart that was held of the cell before it was prepared
abbrev pub chart_before : StateValue → Prepared → Option CellValue
chart_before state (New key bytes) = None
chart_before state (Known key holding bytes) = chart_of (map.get state.cells key)
