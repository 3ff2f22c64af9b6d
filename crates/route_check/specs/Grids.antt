-- The grids of the charts that are held, and what a report asks them.
use Rattle.std.specs.Prelude.{◌≡◌, ℕ, ◌-◌, List, Some, slice_get}
use Rattle.std.specs.FinMap as finite
use Rattle.chart_model.specs.declared.state.Holding.{Holding}
use Rattle.chart_model.specs.Cell.{CellValue}
use Rattle.chart_model.specs.Codes.{FEATURE}
use Rattle.chart_model.specs.Keys.{key_cmp}
use Rattle.chart_model.specs.Names.{name_cmp}
use Rattle.chart_model.specs.State.{StateValue}
use Rattle.plane_bounds.specs.declared.bounds.Bounds.{Bounds}
use Rattle.route_geometry.specs.declared.leg.Leg.{Leg}
use Rattle.spatial_grid.specs.Box.{IsGridOf}
use Rattle.spatial_grid.specs.Candidates.{IsCandidate}
use Rattle.route_check.specs.declared.danger.Danger.{Danger}
use Rattle.route_check.specs.declared.route.Route.{Route}
use Rattle.route_check.specs.Route.{legs_of}
use Rattle.route_check.specs.Reach.{reach_of}

-- the boxes of a chart's features by their names
abbrev pub GridValue : Type 0
GridValue = finite.FinMap name_cmp Bounds

-- grids by the keys of the charts
abbrev pub GridsValue : Type 0
GridsValue = finite.FinMap key_cmp GridValue

-- the grid of the chart is there under its key
pub record HasGridOf (grids : GridsValue) (key : List ℕ) (chart : CellValue) : Type 0 where
  pub grid : GridValue
  pub there : finite.get grids key ≡ Some grid
  pub is_grid : IsGridOf chart grid

-- that of each chart that is held
abbrev pub HasGrids : StateValue → GridsValue → Type 0
HasGrids state grids =
    (key : List ℕ) (holding : Holding) (chart : CellValue) → finite.get state.cells key ≡ Some holding →
    holding.chart ≡ Some chart → HasGridOf grids key chart

-- there is a grid under the danger's key, of which its feature is a candidate where the leg of its number reaches
pub record IsAsked (grids : GridsValue) (route : Route) (danger : Danger) : Type 0 where
  pub leg : Leg
  pub on_route : slice_get (legs_of route) (danger.leg - 1) ≡ Some leg
  pub grid : GridValue
  pub there : finite.get grids danger.key ≡ Some grid
  pub candidate : IsCandidate grid (reach_of leg) (record { rcnm = FEATURE; rcid = danger.rcid })
