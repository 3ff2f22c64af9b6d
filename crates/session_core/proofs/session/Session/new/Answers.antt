-- What is kept of the cells that the store holds.
use Rattle.std.proofs.Common.{subst}
use Rattle.chart_store.specs.Loaded.{HoldingsByKey}
use Rattle.session_core.specs.Kept.{IsKeptOfEach}
use Rattle.spatial_grid.specs.Box.{IsGridOf}
use Rattle.topology_cache.specs.Users.{AreUsersOf}
use Rattle.session_core.proofs.session.Session.new.Goals as goal

pub returns-clause-charts : goal.returns-clause-charts
returns-clause-charts g c = record {
  users = subst (λ (cells : HoldingsByKey). IsKeptOfEach AreUsersOf cells c.in_ok-users.users) c.cells_of-cells.ensures.cells c.in_ok-users.ensures.kept;
  grids = subst (λ (cells : HoldingsByKey). IsKeptOfEach IsGridOf cells c.in_ok-grids.grids) c.cells_of-cells.ensures.cells c.in_ok-grids.ensures;
}
