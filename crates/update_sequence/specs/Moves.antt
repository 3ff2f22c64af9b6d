-- How many items of lists the changes of a file may move.
use Rattle.std.specs.Prelude.{ℕ, ◌+◌, List, [], ◌∷◌}
use Rattle.chart_model.specs.Cell.{CellValue}
use Rattle.chart_model.specs.Change.{Change}
use Rattle.update_apply.specs.Changed.{cell_after}
use Rattle.update_apply.specs.Fault.{held_under}
use Rattle.update_apply.specs.Moves.{cost_of}

-- the sum of what each change may move of the cell that those before it leave
abbrev pub moves_of : CellValue → List Change → ℕ
moves_of cell [] = 0
moves_of cell (change ∷ rest) =
    cost_of (held_under cell change.target) change + moves_of (cell_after cell change) rest

-- the most that the changes of one file may move
abbrev pub MOST_MOVES : ℕ
MOST_MOVES = 268435456
