use Rattle.update_apply.proofs.CellsKept.{cells-held}
use Rattle.update_apply.proofs.laws.cells_are_kept.Goals as goal

pub returns : goal.returns
returns c = cells-held
