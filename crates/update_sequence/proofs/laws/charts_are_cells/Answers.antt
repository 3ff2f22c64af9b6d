use Rattle.update_sequence.proofs.Charts.{built-cell}
use Rattle.update_sequence.proofs.laws.charts_are_cells.Goals as goal

pub returns : goal.returns
returns c = built-cell c.cells_are_kept.ensures
