-- The dangerous objects along a route.
use Rattle.std.specs.Prelude.{◌≡◌, ◌↔◌, ℕ, ◌-◌, ◌≤◌, if◌then◌else◌, List, [], ◌∷◌, slice_get, Some, Contains, AllPairs}
use Rattle.std.specs.List.{flat_map, enumerate_from}
use Rattle.std.specs.Ordering.{ordering_then, nat_cmp}
use Rattle.std.specs.declared.cmp.Ordering.{Ordering}
use Rattle.std.specs.declared.cmp.Ordering.TheVariants.{Less}
use Rattle.std.specs.FinMap as map
use Rattle.chart_model.specs.declared.cell.Feature.{Feature}
use Rattle.chart_model.specs.declared.settings.Settings.{Settings}
use Rattle.chart_model.specs.declared.state.Holding.{Holding}
use Rattle.chart_model.specs.Cell.{CellValue}
use Rattle.chart_model.specs.Codes.{FEATURE}
use Rattle.chart_model.specs.Keys.{key_cmp}
use Rattle.chart_model.specs.State.{StateValue}
use Rattle.area_rings.specs.declared.shape.Shape.{Shape}
use Rattle.route_geometry.specs.declared.leg.Leg.{Leg}
use Rattle.route_check.specs.declared.danger.Danger.{Danger}
use Rattle.route_check.specs.declared.route.Route.{Route}
use Rattle.route_check.specs.Route.{legs_of}
use Rattle.route_check.specs.Meeting.{MeetsShape, meets_shape}
use Rattle.route_check.specs.Object.{ObjectValue}
use Rattle.route_check.specs.Danger.{IsObject, objects_of}
use Rattle.route_check.specs.Grids.{GridsValue, IsAsked}

-- the leg of that number meets an object of that place, of the feature of that number, of the chart that is held under
-- that key
pub record IsRow (state : StateValue) (settings : Settings) (route : Route) (danger : Danger) : Type 0 where
  pub counted : 1 ≤ danger.leg
  pub leg : Leg
  pub on_route : slice_get (legs_of route) (danger.leg - 1) ≡ Some leg
  pub holding : Holding
  pub held : map.get state.cells danger.key ≡ Some holding
  pub chart : CellValue
  pub charted : holding.chart ≡ Some chart
  pub feature : Feature
  pub there : map.get chart.features (record { rcnm = FEATURE; rcid = danger.rcid }) ≡ Some feature
  pub shape : Shape
  pub dangerous : IsObject chart settings feature danger.place shape
  pub meets : MeetsShape leg shape

-- by leg, then by key, by the feature's number and by place
abbrev pub danger_cmp : Danger → Danger → Ordering
danger_cmp x y =
    ordering_then (nat_cmp x.leg y.leg)
    (ordering_then (key_cmp x.key y.key) (ordering_then (nat_cmp x.rcid y.rcid) (nat_cmp x.place y.place)))

-- all that meet and no others, in order, each once
pub record IsReport (state : StateValue) (settings : Settings) (route : Route) (report : List Danger) : Type 0 where
  pub rows : (danger : Danger) → Contains report danger ↔ IsRow state settings route danger
  pub ordered : AllPairs (λ x y. danger_cmp x y ≡ Less) report

-- of all these, those whose feature is a candidate of the chart's grid
pub record IsReportBy (grids : GridsValue) (state : StateValue) (settings : Settings) (route : Route)
    (report : List Danger) : Type 0 where
  pub rows : (danger : Danger) → Contains report danger
      ↔ (IsRow state settings route danger × IsAsked grids route danger)
  pub ordered : AllPairs (λ x y. danger_cmp x y ≡ Less) report

-- ---- as a function

abbrev pub row_of : ℕ → ObjectValue → Danger
row_of leg object = record { leg = leg; key = object.key; rcid = object.rcid; place = object.place }

-- the row of a leg and an object, where they meet
abbrev pub row_at : ℕ × Leg → ObjectValue → List Danger
row_at counted object = if meets_shape counted.1 object.shape then row_of counted.0 object ∷ [] else []

-- the rows of a leg: every object is tried
abbrev pub rows_of : List ObjectValue → ℕ × Leg → List Danger
rows_of objects counted = flat_map (row_at counted) objects

-- every leg, and every object of every chart
abbrev pub report_of : StateValue → Settings → Route → List Danger
report_of state settings route = flat_map (rows_of (objects_of settings state)) (enumerate_from 1 (legs_of route))
