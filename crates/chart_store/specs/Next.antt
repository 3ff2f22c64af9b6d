-- What a command makes of its cell, before it is put in place.
use Rattle.std.specs.Prelude.{◌≡◌, ◌≤◌, ℕ, List, Option, Some, None, IfSome, IsSome, IsNone, Result}
use Rattle.std.specs.FinMap as map
use Rattle.chart_model.specs.State.{StateValue, IsHolding}
use Rattle.chart_model.specs.declared.state.Holding.{Holding}
use Rattle.chart_store.specs.declared.refusal.Refusal.{Refusal}
use Rattle.chart_store.specs.declared.fault.TakeFault.{TakeFault}
use Rattle.chart_store.specs.declared.next.Next.{Next}
use Rattle.chart_store.specs.Fault.{GivesBy}
use Rattle.chart_store.specs.Live.{HasClosedChart}
use Rattle.chart_store.specs.Loaded.{HoldingsByKey, live_bytes, HELD_LIMIT, Outcome}

-- the cells once this is held of the one with this key, or nothing
abbrev pub cells_with : HoldingsByKey → List ℕ → Option Holding → HoldingsByKey
cells_with cells key None = map.remove cells key
cells_with cells key (Some here) = map.insert cells key here

-- all that is held then
abbrev pub state_by_next : StateValue → Next → StateValue
state_by_next state next = record { cells = cells_with state.cells next.key next.holding }

abbrev pub outcome_by : StateValue → Next → Outcome
outcome_by state next = record { key = next.key; held = next.held; state = state_by_next state next }

-- what can be put in place: the cell can be held, with a closed chart, a cell that is taken away is there, and the bytes
-- of all live files are those that will be
pub record CanStand (cells : HoldingsByKey) (key : List ℕ) (holding : Option Holding) (bytes : ℕ) : Type 0 where
  pub holds : IfSome holding (IsHolding key)
  pub closed : IfSome holding (HasClosedChart key)
  pub there : IsNone holding → IsSome (map.get cells key)
  pub counted : bytes ≡ live_bytes (cells_with cells key holding)
  pub within : bytes ≤ HELD_LIMIT

abbrev pub IsNext : StateValue → Next → Type 0
IsNext state next = CanStand state.cells next.key next.holding next.bytes

-- ---- answers

-- what would be held is what was to be answered, unless memory ran out
abbrev pub GivesNext : Result Next TakeFault → StateValue → Result Outcome Refusal → Type 0
GivesNext answer state wanted = GivesBy (outcome_by state) answer wanted

-- the same of what would be held alone
abbrev pub GivesNextState : Result Next TakeFault → StateValue → Result StateValue Refusal → Type 0
GivesNextState answer state wanted = GivesBy (state_by_next state) answer wanted
