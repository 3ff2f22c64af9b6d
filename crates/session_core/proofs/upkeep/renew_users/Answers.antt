-- The users follow the records that differ; those of a chart that wasn't there before are made.
use Rattle.std.proofs.Common.{ap, arith}
use Rattle.std.specs.Option.{option_copied}
use Rattle.topology_cache.specs.Users.{AreUsersOf}
use Rattle.session_core.proofs.Keeping.{on-ok, renewed-none, renewed-some}
use Rattle.session_core.proofs.Stepping.{fewer-features, fresh-features, has-changed}
use Rattle.session_core.proofs.upkeep.renew_users.Goals as goal

pub returns-in_default-clause-at_most : goal.returns-in_default-clause-at_most
returns-in_default-clause-at_most g c =
    let fresh = fresh-features c.args.done.now.old (option_copied c.args.now) c.args.done.now.changed c.in_default.is c.requires.changed in
    omega (arith, fresh, c.make_users.ensures.at_most)

pub returns-in_default-now-clause-renewed : goal.returns-in_default-now-clause-renewed
returns-in_default-now-clause-renewed g c =
    renewed-none AreUsersOf c.args.done.now.key _ c.args.users.now c.remove-before.new.self (ap option_copied c.in_default-now.is) c.remove-before.ensures.map

pub absorb-requires-clause-changed : goal.absorb-requires-clause-changed
absorb-requires-clause-changed g c =
    has-changed c.args.done.now.old (option_copied c.args.now) c.in-Some.old c.in-Some-now.chart.now c.args.done.now.changed
    c.in-Some.is (ap option_copied c.in-Some-now.is) c.requires.changed

pub returns-in_err-absorb-clause-at_most : goal.returns-in_err-absorb-clause-at_most
returns-in_err-absorb-clause-at_most g c =
    let fewer = fewer-features c.args.done.now.changed in omega (arith, fewer, c.absorb.ensures.at_most)

pub returns-clause-at_most : goal.returns-clause-at_most
returns-clause-at_most g c =
    let fewer = fewer-features c.args.done.now.changed in omega (arith, fewer, c.absorb.ensures.at_most)

pub returns-clause-renewed : goal.returns-clause-renewed
returns-clause-renewed g c =
    on-ok c.insert.result _ _ (λ put.
    renewed-some AreUsersOf c.args.done.now.key _ c.in-Some-now.chart.now c.args.users.now c.remove-before.new.self c.insert.new.self _
    (ap option_copied c.in-Some-now.is) c.remove-before.ensures.map put c.in_ok-absorb.ensures.users)
    c.insert.ensures.ok
