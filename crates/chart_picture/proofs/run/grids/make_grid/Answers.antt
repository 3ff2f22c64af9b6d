-- The grid of the chart there now, or none.
use Rattle.std.proofs.Common.{ap}
use Rattle.std.specs.Option.{option_copied}
use Rattle.spatial_grid.specs.Box.{IsGridOf}
use Rattle.session_core.proofs.Keeping.{on-ok, renewed-none, renewed-some}
use Rattle.chart_picture.proofs.run.grids.make_grid.Goals as goal

pub returns-in_default : goal.returns-in_default
returns-in_default c =
    renewed-none IsGridOf c.args.key _ c.args.grids.now c.remove.new.self (ap option_copied c.in_default.is) c.remove.ensures.map

pub returns : goal.returns
returns c =
    on-ok c.insert.result _ _ (λ put.
    renewed-some IsGridOf c.args.key _ c.in-Some.chart.now c.args.grids.now c.remove.new.self c.insert.new.self _
    (ap option_copied c.in-Some.is) c.remove.ensures.map put c.in_ok-grid_of.ensures)
    c.insert.ensures.ok
