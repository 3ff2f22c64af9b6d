use Rattle.std.proofs.Common.{◌≡◌, ◌++◌, take}
use Rattle.depth_values.proofs.cells.CellList.push_all.Given as goal

abbrev pub invariant-loop-cell : goal.invariant-loop-cell
invariant-loop-cell l = l.self-inside.cells.items ≡ l.initial.self-inside.cells.items ++ take l.cell-index l.cells
