-- the charts that are left are closed just where all are
use Rattle.std.proofs.Common.{◌≡◌}
use Rattle.chart_store.specs.Checkpoint.{have_closed_charts}
use Rattle.chart_store.proofs.Checkpoints.{are_closed}
use Rattle.chart_store.proofs.checkpoint.have_closed_charts.Given as goal

abbrev pub invariant-loop-here : goal.invariant-loop-here
invariant-loop-here l = are_closed l.here-iterator ≡ have_closed_charts l.cells
