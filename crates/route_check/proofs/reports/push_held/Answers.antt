use Rattle.std.proofs.Common.{sym}
use Rattle.route_check.proofs.Asked.{held_gains}
use Rattle.route_check.proofs.reports.push_held.Goals as goal

pub returns-in_ok-push_chart-in-Some-get : goal.returns-in_ok-push_chart-in-Some-get
returns-in_ok-push_chart-in-Some-get c =
    held_gains c.args.grids.now c.args.settings.now c.args.route.now c.args.key c.args.chart.now c.in-Some.cell c.in-Some-get.grid.now c.args.rows.now.items
    c.push_chart.new.rows.items c.in-Some.is (sym c.in-Some-get.ensures) c.in_ok-push_chart-in-Some-get.ensures
