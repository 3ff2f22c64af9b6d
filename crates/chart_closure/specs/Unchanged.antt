-- Charts whose records stand for those of a chart before.
use Rattle.std.specs.Prelude.{◌≡◌, Option, Some, None, IsSome, IsSomeAnd}
use Rattle.std.specs.FinMap as finite
use Rattle.chart_model.specs.declared.name.Name.{Name}
use Rattle.chart_model.specs.declared.cell.Feature.{Feature}
use Rattle.chart_model.specs.Cell.{CellValue}
use Rattle.area_rings.specs.KeptEdges.{KeepsVectors, StandsFor}

-- each record has one under its name, and of vector records one that stands for it
pub record KeepsRecords (before after : CellValue) : Type 0 where
  pub vectors : KeepsVectors before after
  pub features : (name : Name) → IsSome (finite.get before.features name) → IsSome (finite.get after.features name)

-- a feature with the primitive and the pointers of another, whatever else it says
pub record ShowsTheSame (before after : Feature) : Type 0 where
  pub prim : after.prim ≡ before.prim
  pub pointers : after.pointers ≡ before.pointers

-- none where there was none, and else one that stands for the one before
abbrev pub StandsStill : {V : Type 0} → (V → V → Type 0) → Option V → Option V → Type 0
StandsStill Stands None after = after ≡ None
StandsStill Stands (Some kept) after = IsSomeAnd after (Stands kept)

-- the records of a name are as they were, in all that closure asks of them
pub record StandsAsBefore (before after : CellValue) (name : Name) : Type 0 where
  pub vector : StandsStill StandsFor (finite.get before.vectors name) (finite.get after.vectors name)
  pub feature : StandsStill ShowsTheSame (finite.get before.features name) (finite.get after.features name)
