-- The records that differ between two charts of a cell.
use Rattle.std.specs.Prelude.{◌≢◌, ◌⊎◌, ◌↔◌, ◌++◌, List, [], Option, Some, None, Contains}
use Rattle.std.specs.Option.{option_and_then}
use Rattle.std.specs.List.Sorted.{IsStrictlySortedBy}
use Rattle.std.specs.FinMap as map
use Rattle.chart_model.specs.Cell.{CellValue}
use Rattle.chart_model.specs.Names.{name_cmp}
use Rattle.chart_model.specs.declared.name.Name.{Name}
use Rattle.chart_model.specs.declared.cell.Vector.{Vector}
use Rattle.chart_model.specs.declared.cell.Feature.{Feature}

-- the record under a name: none where there is no chart
abbrev pub vector_in : Option CellValue → Name → Option Vector
vector_in chart name = option_and_then (λ (cell : CellValue). map.get cell.vectors name) chart

abbrev pub feature_in : Option CellValue → Name → Option Feature
feature_in chart name = option_and_then (λ (cell : CellValue). map.get cell.features name) chart

-- one chart has another record under the name than the other, or one of them has none
abbrev pub Differ : Option CellValue → Option CellValue → Name → Type 0
Differ old new name = (vector_in old name ≢ vector_in new name) ⊎ (feature_in old name ≢ feature_in new name)

-- the names whose records differ are among these
abbrev pub HasAll : Option CellValue → Option CellValue → List Name → Type 0
HasAll old new names = (name : Name) → Differ old new name → Contains names name

-- exactly the names whose records differ, in rising order
pub record AreChanged (old new : Option CellValue) (names : List Name) : Type 0 where
  pub rising : IsStrictlySortedBy name_cmp names
  pub exact : (name : Name) → Contains names name ↔ Differ old new name

-- the names of all records, in their order
abbrev pub names_in : Option CellValue → List Name
names_in None = []
names_in (Some cell) = map.keys cell.features ++ map.keys cell.vectors
