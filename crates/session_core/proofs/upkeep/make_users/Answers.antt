-- The users of the chart there now, or none.
use Rattle.std.proofs.Common.{ap}
use Rattle.std.specs.Option.{option_copied}
use Rattle.topology_cache.specs.Users.{AreUsersOf}
use Rattle.session_core.proofs.Keeping.{on-ok, renewed-none, renewed-some}
use Rattle.session_core.proofs.upkeep.make_users.Goals as goal

pub returns-in_default-clause-renewed : goal.returns-in_default-clause-renewed
returns-in_default-clause-renewed g c =
    renewed-none AreUsersOf c.args.key _ c.args.users.now c.remove.new.self (ap option_copied c.in_default.is) c.remove.ensures.map

pub returns-clause-renewed : goal.returns-clause-renewed
returns-clause-renewed g c =
    on-ok c.insert.result _ _ (λ put.
    renewed-some AreUsersOf c.args.key _ c.in-Some.chart.now c.args.users.now c.remove.new.self c.insert.new.self _
    (ap option_copied c.in-Some.is) c.remove.ensures.map put c.in_ok-users_of.ensures.users)
    c.insert.ensures.ok
