-- A change leaves the header.
use Rattle.std.proofs.Common.{◌≡◌, Bool, true, false, if◌then◌else◌, refl}
use Rattle.chart_model.specs.Cell.{CellValue}
use Rattle.chart_model.specs.Change.{Change}
use Rattle.update_apply.specs.Changed.{cell_after}
use Rattle.update_apply.specs.Fault.{is_feature}

same-header : (b : Bool) (x y cell : CellValue) → x.header ≡ cell.header → y.header ≡ cell.header → (if b then x else y).header ≡ cell.header
same-header true x y cell p q = p
same-header false x y cell p q = q

pub headers-held : (cell : CellValue) (change : Change) → (cell_after cell change).header ≡ cell.header
headers-held cell change = same-header (is_feature change.target) _ _ cell refl refl
