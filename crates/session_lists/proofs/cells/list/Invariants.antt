-- the lines so far, and those of the entries that are left, are all lines
use Rattle.std.proofs.Common.{◌≡◌, ◌++◌, List, ℕ}
use Rattle.std.specs.List.{flat_map}
use Rattle.chart_model.specs.declared.state.Holding.{Holding}
use Rattle.session_lists.specs.Cells.{cell_line, cell_lines}
use Rattle.session_lists.proofs.cells.list.Given as goal

abbrev pub invariant-loop-key : goal.invariant-loop-key
invariant-loop-key l = l.lines ++ flat_map (λ (entry : List ℕ × Holding). cell_line entry.0 entry.1) l.key-iterator ≡ cell_lines l.cells
