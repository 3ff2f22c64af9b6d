-- Depth areas in the making.
use Rattle.std.specs.Prelude.{◌≡◌, ℕ, List, [], ◌∷◌, ◌++◌, Contains, slice_get, Some}
use Rattle.std.specs.List.{filter_map}
use Rattle.std.specs.FinMap as finite
use Rattle.chart_model.specs.declared.name.Name.{Name}
use Rattle.chart_model.specs.declared.cell.Feature.{Feature}
use Rattle.chart_model.specs.Cell.{CellValue}
use Rattle.area_rings.specs.Shape.{rings_of}
use Rattle.depth_values.specs.DepthArea.{AreaValue}
use Rattle.depth_values.specs.Under.{area_at}

-- each of the areas has the rings of the feature of its name
abbrev pub AreMade : CellValue → List AreaValue → Type 0
AreMade cell areas =
    (area : AreaValue) → Contains areas area → (feature : Feature) →
    finite.get cell.features area.name ≡ Some feature → rings_of cell feature.pointers ≡ Some area.rings

-- the area at the place has the rings of the feature
pub record IsTwin (cell : CellValue) (areas : List AreaValue) (feature : Feature) (place : ℕ) : Type 0 where
  pub area : AreaValue
  pub there : slice_get areas place ≡ Some area
  pub rings : rings_of cell feature.pointers ≡ Some area.rings

-- the areas with the one that a feature of a name is, where it is one and has rings
abbrev pub with_feature : CellValue → List AreaValue → Name × Feature → List AreaValue
with_feature cell areas entry = areas ++ filter_map (area_at cell) (entry ∷ [])
