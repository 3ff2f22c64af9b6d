use Rattle.std.proofs.Common.{◌≡◌, drop}
use Rattle.std.specs.Prelude.{find}
use Rattle.chart_svg.specs.Dangers.{has_key}
use Rattle.chart_svg.proofs.dangers.chart_of.Given as goal

abbrev pub invariant-loop-chart : goal.invariant-loop-chart
invariant-loop-chart l = find (has_key l.key) (drop l.chart-index l.charts) ≡ find (has_key l.key) l.charts
