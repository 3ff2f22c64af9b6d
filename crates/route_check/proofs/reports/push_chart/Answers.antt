use Rattle.std.proofs.Common.{List, ◌++◌, ap, ◌∙◌}
use Rattle.std.specs.List.{flat_map}
use Rattle.route_check.specs.declared.asks.Ask.{Ask}
use Rattle.route_check.specs.Ask.{rows_asked}
use Rattle.route_check.proofs.Asked.{chart_gains}
use Rattle.route_check.proofs.reports.push_chart.Goals as goal

pub returns : goal.returns
returns c =
    let from = c.args.from.now in
    let rows = c.args.rows.now.items in
    chart_gains c.args.grid.now from.settings.now from.key from.cell.now c.args.route.now c.in_ok-asks.asks.items rows c.push_asked.new.rows.items
    c.in_ok-asks.ensures
    (c.in_ok-push_asked.ensures
    ∙ ap (λ (l : List Ask). rows ++ flat_map (rows_asked from.settings.now from.key from.cell.now c.args.route.now) l) c.as_slice.ensures.value)
