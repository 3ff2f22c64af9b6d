-- the charts so far, and those of the entries that are left, are all charts
use Rattle.std.proofs.Common.{◌≡◌, ◌++◌, map}
use Rattle.std.specs.List.{flat_map}
use Rattle.chart_picture.specs.Charts.{charts_in, drawn_holding, value_of_chart}
use Rattle.chart_picture.proofs.run.drawings.drawn_charts.Given as goal

abbrev pub invariant-loop-key : goal.invariant-loop-key
invariant-loop-key g l =
    map value_of_chart l.charts.items ++ flat_map (drawn_holding l.table l.settings) l.key-iterator
    ≡ charts_in l.table l.settings l.cells
