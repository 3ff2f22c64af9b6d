-- What is kept of each chart that is held, beside it.
use Rattle.std.specs.Prelude.{◌≡◌, ◌≢◌, ℕ, List, Option, Some, None, sum_by}
use Rattle.std.specs.FinMap as finite
use Rattle.chart_model.specs.Cell.{CellValue}
use Rattle.chart_model.specs.Keys.{key_cmp}
use Rattle.chart_model.specs.declared.state.Holding.{Holding}
use Rattle.chart_store.specs.Loaded.{HoldingsByKey}
use Rattle.session_core.specs.Held.{chart_of}

-- of a chart there is what is kept of it, and where there is no chart there is nothing
abbrev pub IsKeptOf : {V : Type 0} → (CellValue → V → Type 0) → Option CellValue → Option V → Type 0
IsKeptOf IsOf (Some chart) (Some value) = IsOf chart value
IsKeptOf IsOf (Some chart) None = ⊥
IsKeptOf IsOf None (Some value) = ⊥
IsKeptOf IsOf None None = Unit {0}

-- so it is under each key
abbrev pub IsKeptOfEach : {V : Type 0} → (CellValue → V → Type 0) → HoldingsByKey → finite.FinMap key_cmp V → Type 0
IsKeptOfEach IsOf cells kept = (key : List ℕ) → IsKeptOf IsOf (chart_of cells key) (finite.get kept key)

-- under a key it is so of the chart there now, and under each other key there is what was
pub record IsRenewed {V : Type 0} (IsOf : CellValue → V → Type 0) (key : List ℕ) (now : Option CellValue)
    (before after : finite.FinMap key_cmp V) : Type 0 where
  pub here : IsKeptOf IsOf now (finite.get after key)
  pub others : (other : List ℕ) → other ≢ key → finite.get after other ≡ finite.get before other

-- ---- features

-- the features of a chart, none where there is no chart
abbrev pub features_in : Option CellValue → ℕ
features_in None = 0
features_in (Some chart) = finite.len chart.features

-- the features of all charts that are held
abbrev pub feature_count : HoldingsByKey → ℕ
feature_count cells = sum_by (λ (here : Holding). features_in here.chart) (finite.values cells)
