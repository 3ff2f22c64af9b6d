-- No name is that of a feature and of a vector record.
use Rattle.std.proofs.Common.{◌≡◌, ◌≢◌, Option, Some, None, IfSome, refl, arith}
use Rattle.std.specs.FinMap as map
use Rattle.chart_model.specs.Cell.{CellValue, IsCell}
use Rattle.chart_model.specs.declared.name.Name.{Name}

absent : {X : Type 0} {P : X → Type 0} (o : Option X) → IfSome o P → ((x : X) → P x → ⊥) → o ≡ None
absent None holds never = refl
absent (Some x) holds never = absurd (never x holds)

pub no_vector : (cell : CellValue) (name : Name) → IsCell cell → name.rcnm ≡ 100 → map.get cell.vectors name ≡ None
no_vector cell name is so =
    absent (map.get cell.vectors name) (is.vectors name) (λ vector found. omega (arith, found.named, so))

pub no_feature : (cell : CellValue) (name : Name) → IsCell cell → name.rcnm ≢ 100 → map.get cell.features name ≡ None
no_feature cell name is other =
    absent (map.get cell.features name) (is.features name) (λ feature found. other found.named)
