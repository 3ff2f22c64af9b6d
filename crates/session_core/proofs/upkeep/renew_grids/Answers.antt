-- The grid follows the records that differ; that of a chart that wasn't there before is made.
use Rattle.std.proofs.Common.{ap}
use Rattle.std.specs.Option.{option_copied}
use Rattle.spatial_grid.specs.Box.{IsGridOf}
use Rattle.session_core.proofs.Keeping.{on-ok, renewed-none, renewed-some}
use Rattle.session_core.proofs.Stepping.{all-changed}
use Rattle.session_core.proofs.upkeep.renew_grids.Goals as goal

pub returns-in_default-now : goal.returns-in_default-now
returns-in_default-now c =
    renewed-none IsGridOf c.args.done.now.key _ c.args.grids.now c.remove-before.new.self (ap option_copied c.in_default-now.is) c.remove-before.ensures.map

pub absorb-requires-clause-changed : goal.absorb-requires-clause-changed
absorb-requires-clause-changed c =
    all-changed c.args.done.now.old (option_copied c.args.now) c.in-Some.old c.in-Some-now.chart.now c.args.done.now.changed
    c.in-Some.is (ap option_copied c.in-Some-now.is) c.requires.changed

pub returns : goal.returns
returns c =
    on-ok c.insert.result _ _ (λ put.
    renewed-some IsGridOf c.args.done.now.key _ c.in-Some-now.chart.now c.args.grids.now c.remove-before.new.self c.insert.new.self _
    (ap option_copied c.in-Some-now.is) c.remove-before.ensures.map put c.in_ok-absorb.ensures.grid)
    c.insert.ensures.ok
