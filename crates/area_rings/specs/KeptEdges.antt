-- Cells in which edges keep their lines.
use Rattle.std.specs.Prelude.{◌≡◌, ◌≢◌, [], Some, IfSome}
use Rattle.std.specs.FinMap as finite
use Rattle.chart_model.specs.declared.name.Name.{Name}
use Rattle.chart_model.specs.declared.cell.Vector.{Vector}
use Rattle.chart_model.specs.Cell.{CellValue}

-- a vector record with the pointers of another, and with a coordinate where that has one
pub record StandsFor (before after : Vector) : Type 0 where
  pub pointers : after.pointers ≡ before.pointers
  pub placed : before.coords ≢ [] → after.coords ≢ []

-- for each vector record of a cell one stands in another cell, under its name
abbrev pub KeepsVectors : CellValue → CellValue → Type 0
KeepsVectors before after =
    (name : Name) → IfSome (finite.get before.vectors name) (λ vector.
    (kept : Vector) × (finite.get after.vectors name ≡ Some kept) × StandsFor vector kept)
