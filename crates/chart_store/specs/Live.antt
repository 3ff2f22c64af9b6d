-- What is kept of all that is held, and what live files leave of it, one after the other from nothing.
use Rattle.std.specs.Prelude.{◌≡◌, ◌≤◌, ℕ, List, fold, Some, IfSome, Result, Ok, Err}
use Rattle.std.specs.FinMap as map
use Rattle.chart_closure.specs.Closed.{IsClosed}
use Rattle.chart_model.specs.State.{StateValue}
use Rattle.chart_model.specs.declared.state.Holding.{Holding}
use Rattle.update_sequence.specs.Sequence.{Leaves}
use Rattle.chart_store.specs.declared.refusal.Refusal.{Refusal}
use Rattle.chart_store.specs.Loaded.{HoldingsByKey, nothing_held, live_bytes, HELD_LIMIT, Outcome, loaded}

-- the live files of the cell are an update sequence, and numbers and chart are those that they leave
abbrev pub IsLive : List ℕ → Holding → Type 0
IsLive key here = Leaves key here.files (Some here.held) here.chart

-- each cell that is held is so
abbrev pub AreLive : HoldingsByKey → Type 0
AreLive cells = (key : List ℕ) → IfSome (map.get cells key) (IsLive key)

-- the chart that is held of a cell, if it has one, is closed
abbrev pub HasClosedChart : List ℕ → Holding → Type 0
HasClosedChart key here = IfSome here.chart IsClosed

-- each chart that is held is so
abbrev pub AreClosed : HoldingsByKey → Type 0
AreClosed cells = (key : List ℕ) → IfSome (map.get cells key) (HasClosedChart key)

-- the count that is kept of the bytes of all live files
pub record IsCounted (state : StateValue) (bytes : ℕ) : Type 0 where
  pub counted : bytes ≡ live_bytes state.cells
  pub within : bytes ≤ HELD_LIMIT

pub record IsStore (state : StateValue) (bytes : ℕ) : Type 0 where
  pub count : IsCounted state bytes
  pub closed : AreClosed state.cells

-- ---- files, one after the other

-- a refusal leaves all as it was
abbrev pub state_or : StateValue → Result Outcome Refusal → StateValue
state_or state (Ok done) = done.state
state_or state (Err refusal) = state

-- what is held after a file, accepted or refused
abbrev pub state_after : StateValue → List ℕ → StateValue
state_after state file = state_or state (loaded state file)

-- what is held after files, one after the other from nothing held
unfoldable pub state_by : List (List ℕ) → StateValue
state_by files = fold state_after nothing_held files
