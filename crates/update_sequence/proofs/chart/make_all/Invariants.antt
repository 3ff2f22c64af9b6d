use Rattle.std.proofs.Common.{◌≡◌, ◌+◌}
use Rattle.std.specs.Vec.Iter.{into_iter_items}
use Rattle.update_sequence.specs.Built.{folded}
use Rattle.update_sequence.specs.Moves.{moves_of}
use Rattle.update_sequence.proofs.chart.make_all.Given as goal

-- the changes that are left make of the cell what all make of the first, and what all may move is what those may move
-- and what is spent of the budget
abbrev pub invariant-loop-change : goal.invariant-loop-change
invariant-loop-change l =
    (folded l.cell (into_iter_items l.change-iterator) ≡ folded l.fn.cell l.fn.changes.items)
    × (moves_of l.fn.cell l.fn.changes.items + l.moves
    ≡ moves_of l.cell (into_iter_items l.change-iterator) + l.fn.moves)
