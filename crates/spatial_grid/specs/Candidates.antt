-- Which names of a grid an area may concern.
use Rattle.std.specs.Prelude.{◌≡◌, ◌↔◌, List, Some, Contains, AllPairs}
use Rattle.std.specs.declared.cmp.Ordering.TheVariants.{Less}
use Rattle.std.specs.FinMap as finite
use Rattle.chart_model.specs.declared.name.Name.{Name}
use Rattle.chart_model.specs.Names.{name_cmp}
use Rattle.plane_bounds.specs.declared.bounds.Bounds.{Bounds}
use Rattle.plane_bounds.specs.Bounds.{Meets}

-- the name is in the grid, and its box meets the area
pub record IsCandidate (grid : finite.FinMap name_cmp Bounds) (area : Bounds) (name : Name) : Type 0 where
  pub box : Bounds
  pub there : finite.get grid name ≡ Some box
  pub meets : Meets box area

-- these names and no others, in order, each once
pub record AreCandidates (grid : finite.FinMap name_cmp Bounds) (area : Bounds) (names : List Name) : Type 0 where
  pub all : (name : Name) → Contains names name ↔ IsCandidate grid area name
  pub ordered : AllPairs (λ x y. name_cmp x y ≡ Less) names
