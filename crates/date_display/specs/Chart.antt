-- The chart of a day.
use Rattle.std.specs.Prelude.{◌≡◌, ◌↔◌, Bool, false, Option, Some, None}
use Rattle.std.specs.FinMap as map
use Rattle.chart_model.specs.Cell.{CellValue}
use Rattle.chart_model.specs.Names.{name_cmp}
use Rattle.chart_model.specs.declared.cell.Feature.{Feature}
use Rattle.chart_model.specs.declared.name.Name.{Name}
use Rattle.date_display.specs.declared.date.Date.{Date}
use Rattle.date_display.specs.Shown.{IsShownOn, is_shown_on}

-- the cell with exactly the features that are shown on the day, and else as it was
pub record IsChartOn (cell : CellValue) (day : Date) (shown : CellValue) : Type 0 where
  pub header : shown.header ≡ cell.header
  pub vectors : shown.vectors ≡ cell.vectors
  pub features : (name : Name) (feature : Feature) → (map.get shown.features name ≡ Some feature)
      ↔ ((map.get cell.features name ≡ Some feature) × IsShownOn day feature.attrs)

-- ---- as a function

abbrev pub is_some_shown : Date → Option Feature → Bool
is_some_shown day None = false
is_some_shown day (Some feature) = is_shown_on day feature.attrs

unfoldable pub features_on : Date → map.FinMap name_cmp Feature → map.FinMap name_cmp Feature
features_on day features = map.retain_keys features (λ name. is_some_shown day (map.get features name))

abbrev pub chart_on : Date → CellValue → CellValue
chart_on day cell = record {
  header = cell.header;
  vectors = cell.vectors;
  features = features_on day cell.features;
}
