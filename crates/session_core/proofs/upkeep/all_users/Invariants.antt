-- the users of the charts that were seen are there, and no more features were counted than these have
use Rattle.std.proofs.Common.{◌≤◌, ◌+◌}
use Rattle.session_core.specs.Kept.{feature_count}
use Rattle.topology_cache.specs.Users.{AreUsersOf}
use Rattle.session_core.proofs.Keeping.{Walked, charted}
use Rattle.session_core.proofs.upkeep.all_users.Given as goal

abbrev pub invariant-loop-key : goal.invariant-loop-key
invariant-loop-key g l = record {
  walked : Walked AreUsersOf l.cells l.users l.key-iterator;
  counted : l.steps + charted l.key-iterator ≤ l.initial.steps + feature_count l.cells;
}
