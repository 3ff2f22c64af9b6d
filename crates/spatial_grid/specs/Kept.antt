-- Features whose boxes stay.
use Rattle.std.specs.Prelude.{◌≡◌, Some, None}
use Rattle.std.specs.FinMap as finite
use Rattle.chart_model.specs.declared.name.Name.{Name}
use Rattle.chart_model.specs.declared.cell.Feature.{Feature}
use Rattle.chart_model.specs.Cell.{CellValue}

-- the same primitive and the same pointers
pub record HaveSamePlace (before after : Feature) : Type 0 where
  pub prim : after.prim ≡ before.prim
  pub pointers : after.pointers ≡ before.pointers

-- two charts have a feature of that name, with the same primitive and the same pointers, and no vector record
pub record KeepsBox (old new : CellValue) (name : Name) : Type 0 where
  pub before : Feature
  pub after : Feature
  pub was : finite.get old.features name ≡ Some before
  pub is : finite.get new.features name ≡ Some after
  pub same : HaveSamePlace before after
  pub no_vector_before : finite.get old.vectors name ≡ None
  pub no_vector_after : finite.get new.vectors name ≡ None
