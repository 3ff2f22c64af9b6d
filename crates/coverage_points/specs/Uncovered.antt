-- The legs that no area covers.
use Rattle.std.specs.Prelude.{◌≡◌, ◌↔◌, ℕ, ◌-◌, ◌<◌, ◌≤◌, if◌then◌else◌, List, [], ◌∷◌, slice_get, Some, AllPairs, Contains}
use Rattle.std.specs.List.{list_any, flat_map, enumerate_from}
use Rattle.plane_geometry.specs.declared.point.Pt.{Pt}
use Rattle.chart_model.specs.State.{StateValue}
use Rattle.route_geometry.specs.declared.leg.Leg.{Leg}
use Rattle.coverage_points.specs.Cover.{IsCovered, is_covered}
use Rattle.coverage_points.specs.Coverage.{IsCharted, coverage_in}

-- the leg of that number is there, and no area of coverage of a chart that is held covers it
pub record IsUncovered (state : StateValue) (legs : List Leg) (number : ℕ) : Type 0 where
  pub counted : 1 ≤ number
  pub leg : Leg
  pub on_route : slice_get legs (number - 1) ≡ Some leg
  pub uncovered : (rings : List (List Pt)) → IsCharted state rings → ¬ IsCovered leg rings

-- the numbers of all such legs and no others, in order, each once
pub record AreUncovered (state : StateValue) (legs : List Leg) (numbers : List ℕ) : Type 0 where
  pub all : (number : ℕ) → Contains numbers number ↔ IsUncovered state legs number
  pub ordered : AllPairs (λ one other. one < other) numbers

-- ---- as a function

-- the number of a leg, where none of the areas covers it
abbrev pub uncovered_at : List (List (List Pt)) → ℕ × Leg → List ℕ
uncovered_at areas counted = if list_any (is_covered counted.1) areas then [] else counted.0 ∷ []

-- every leg, and every area
abbrev pub uncovered_of : StateValue → List Leg → List ℕ
uncovered_of state legs = flat_map (uncovered_at (coverage_in state)) (enumerate_from 1 legs)
