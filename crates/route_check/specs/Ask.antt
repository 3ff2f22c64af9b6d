-- What of a chart is asked along a route, and the rows of that.
use Rattle.std.specs.Prelude.{◌≡◌, ℕ, ◌+◌, List, [], Option, Some, None, slice_get, Contains}
use Rattle.std.specs.FinMap as finite
use Rattle.chart_model.specs.declared.name.Name.{Name}
use Rattle.chart_model.specs.declared.cell.Feature.{Feature}
use Rattle.chart_model.specs.declared.settings.Settings.{Settings}
use Rattle.chart_model.specs.Cell.{CellValue}
use Rattle.route_geometry.specs.declared.leg.Leg.{Leg}
use Rattle.spatial_grid.specs.Candidates.{IsCandidate}
use Rattle.route_check.specs.declared.asks.Ask.{Ask}
use Rattle.route_check.specs.declared.danger.Danger.{Danger}
use Rattle.route_check.specs.declared.route.Route.{Route}
use Rattle.route_check.specs.Route.{legs_of}
use Rattle.route_check.specs.Reach.{reach_of}
use Rattle.route_check.specs.Object.{ObjectValue}
use Rattle.route_check.specs.Danger.{objects_at}
use Rattle.route_check.specs.Grids.{GridValue, GridsValue}
use Rattle.route_check.specs.Report.{rows_of}

-- the ask of a leg, which others come before, for the feature of a name
abbrev pub ask_for : ℕ → Name → Ask
ask_for before name = record { name = name; before = before }

-- it is one of that leg, for a candidate of the grid
pub record IsAskOf (grid : GridValue) (leg : Leg) (before : ℕ) (ask : Ask) : Type 0 where
  pub placed : ask.before ≡ before
  pub candidate : IsCandidate grid (reach_of leg) ask.name

-- it is one of a leg of the route
pub record IsAsk (grid : GridValue) (route : Route) (ask : Ask) : Type 0 where
  pub leg : Leg
  pub on_route : slice_get (legs_of route) ask.before ≡ Some leg
  pub candidate : IsCandidate grid (reach_of leg) ask.name

-- ---- the rows

-- the dangerous objects of a feature that is there
abbrev pub objects_of_found : Settings → List ℕ → CellValue → ℕ → Option Feature → List ObjectValue
objects_of_found settings key cell rcid None = []
objects_of_found settings key cell rcid (Some feature) = objects_at settings key cell rcid feature

-- those of the feature of a name
abbrev pub objects_named : Settings → List ℕ → CellValue → Name → List ObjectValue
objects_named settings key cell name =
    objects_of_found settings key cell name.rcid (finite.get cell.features name)

-- the rows of a leg that is there
abbrev pub rows_with : List ObjectValue → ℕ → Option Leg → List Danger
rows_with objects before None = []
rows_with objects before (Some leg) = rows_of objects (before + 1, leg)

-- those of the leg that so many come before
abbrev pub rows_after : Route → List ObjectValue → ℕ → List Danger
rows_after route objects before = rows_with objects before (slice_get (legs_of route) before)

-- those of an ask: each object of the feature is tried
abbrev pub rows_asked : Settings → List ℕ → CellValue → Route → Ask → List Danger
rows_asked settings key cell route ask = rows_after route (objects_named settings key cell ask.name) ask.before

-- the row is that of an ask on a chart
pub record IsRowOn (grid : GridValue) (settings : Settings) (key : List ℕ) (cell : CellValue) (route : Route)
    (danger : Danger) : Type 0 where
  pub ask : Ask
  pub asked : IsAsk grid route ask
  pub row : Contains (rows_asked settings key cell route ask) danger

-- on the chart that is held under a key, where there is one and it has a grid
pub record IsRowUnder (grids : GridsValue) (settings : Settings) (route : Route) (key : List ℕ)
    (chart : Option CellValue) (danger : Danger) : Type 0 where
  pub cell : CellValue
  pub charted : chart ≡ Some cell
  pub grid : GridValue
  pub there : finite.get grids key ≡ Some grid
  pub row : IsRowOn grid settings key cell route danger
