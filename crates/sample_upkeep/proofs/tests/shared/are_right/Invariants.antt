-- what is kept is that of the chart
use Rattle.spatial_grid.specs.Box.{IsGridOf}
use Rattle.topology_cache.specs.Users.{AreUsersOf}
use Rattle.sample_upkeep.proofs.tests.shared.are_right.Given as goal

abbrev pub invariant-loop-step : goal.invariant-loop-step
invariant-loop-step l = AreUsersOf l.cell l.kept.users × IsGridOf l.cell l.kept.grid
