-- The cells that are held, as contracts see them.
use Rattle.std.specs.Prelude.{◌≡◌, ◌≤◌, ◌↔◌, ℕ, List, length, All, None, IfSome, true, refl}
use Rattle.std.specs.Coded.{Coded, code_by, coded_list, coded_ℕ}
use Rattle.std.specs.Int.{IsInRange}
use Rattle.std.specs.FinMap as map
use Rattle.chart_model.specs.declared.state.Held.{Held}
use Rattle.chart_model.specs.declared.state.Holding.{Holding}
use Rattle.chart_model.specs.contracts.state.Holding as holding
use Rattle.chart_model.specs.Key.{IsKey}
use Rattle.chart_model.specs.Keys.{key_cmp}
use Rattle.chart_model.specs.Cell.{CellValue, IsCell}

pub record StateValue : Type 0 where
  pub cells : map.FinMap key_cmp Holding

-- a state is stored as its one field
abbrev pub state_code : Coded StateValue
state_code =
    code_by (map.FinMap key_cmp Holding) (map.code (coded_list coded_ℕ) holding.the_row.coded)
    (λ state. state.cells) (λ cells. record { cells = cells }) (λ _. refl)

-- the edition and the update that are held: those of a chart
pub record IsHeld (held : Held) : Type 0 where
  pub edition : IsInRange 1 999999999 held.edition
  pub update : held.update ≤ 999999999

-- a file has at most 8 MiB
abbrev pub IsFileLength : ℕ → Type 0
IsFileLength n = n ≤ 8388608

-- the chart is that of the key, in the edition and at the update that are held
pub record IsChartOf (key : List ℕ) (held : Held) (chart : CellValue) : Type 0 where
  pub cell : IsCell chart
  pub keyed : chart.header.key ≡ key
  pub edition : chart.header.edition ≡ held.edition
  pub update : chart.header.update ≡ held.update

-- what is held under a key: a file at least, and a chart unless the cell is cancelled
pub record IsHolding (key : List ℕ) (here : Holding) : Type 0 where
  pub keyed : IsKey key
  pub held : IsHeld here.held
  pub nonempty : 1 ≤ length here.files
  pub files : All (λ file. IsFileLength (length file)) here.files
  pub cancelled : (here.chart ≡ None) ↔ (here.held.cancelled ≡ true)
  pub chart : IfSome here.chart (IsChartOf key here.held)

pub record IsState (state : StateValue) : Type 0 where
  pub cells : (key : List ℕ) → IfSome (map.get state.cells key) (IsHolding key)
