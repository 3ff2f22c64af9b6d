-- the rows so far are those of the charts that were walked over
use Rattle.std.proofs.Common.{◌≡◌, ℕ, List, ◌++◌}
use Rattle.std.specs.FinMap as finite
use Rattle.chart_model.specs.declared.state.Holding.{Holding}
use Rattle.route_check.proofs.Asked.{IsEntryRow}
use Rattle.route_check.proofs.Gaining.{AreGiven}
use Rattle.route_check.proofs.reports.rows_met.Given as goal

abbrev pub invariant-loop-key : goal.invariant-loop-key
invariant-loop-key l =
    (walked : List (List ℕ × Holding)) × ((walked ++ l.key-iterator ≡ finite.entries l.state.cells)
    × AreGiven (IsEntryRow l.grids l.state l.settings l.route) walked l.rows.items)
