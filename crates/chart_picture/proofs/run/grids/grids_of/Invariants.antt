-- the grids of the charts that were seen are there
use Rattle.spatial_grid.specs.Box.{IsGridOf}
use Rattle.session_core.proofs.Keeping.{Walked}
use Rattle.chart_picture.proofs.run.grids.grids_of.Given as goal

abbrev pub invariant-loop-key : goal.invariant-loop-key
invariant-loop-key l = Walked IsGridOf l.cells l.grids l.key-iterator
