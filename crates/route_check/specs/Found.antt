-- What is kept of a chart while it is asked.
use Rattle.std.specs.Prelude.{◌≡◌, ℕ, List, [], Option, Some, None, IfSome}
use Rattle.chart_model.specs.declared.name.Name.{Name}
use Rattle.chart_model.specs.declared.settings.Settings.{Settings}
use Rattle.chart_model.specs.Cell.{CellValue}
use Rattle.depth_values.specs.DepthArea.{AreaValue}
use Rattle.depth_values.specs.Under.{areas_of}
use Rattle.route_check.specs.declared.found.Found.{Found}
use Rattle.route_check.specs.Object.{ObjectValue}
use Rattle.route_check.specs.Ask.{objects_named}

-- areas that were made are the depth areas of the cell
abbrev pub AreOf : CellValue → Option (List AreaValue) → Type 0
AreOf cell areas = IfSome areas (λ list. list ≡ areas_of cell)

-- the dangerous objects of the feature that was asked last; before the first none
abbrev pub objects_under : Settings → List ℕ → CellValue → Option Name → List ObjectValue
objects_under settings key cell None = []
objects_under settings key cell (Some name) = objects_named settings key cell name

-- what is kept is of this chart
pub record IsOf (settings : Settings) (key : List ℕ) (cell : CellValue) (found : Found) : Type 0 where
  pub areas : AreOf cell found.areas
  pub objects : found.objects.items ≡ objects_under settings key cell found.name
