use Rattle.std.proofs.Common.{◌≡◌, rules}
use Rattle.chart_model.specs.Cell.{CellValue}
use Rattle.date_display.specs.Chart.{chart_on}
use Rattle.date_display.specs.Days.{date_of}
use Rattle.date_display.proofs.Kept.{cell_on, chart_on_like}
use Rattle.date_display.proofs.chart.visible.Goals as goal

pub invariant_of-result : goal.invariant_of-result
invariant_of-result c =
    let cell : CellValue =
    record { header = c.cell.inside.header; vectors = c.cell.inside.vectors; features = c.cell.inside.features } in
    let shown : CellValue =
    record { header = c.cell.inside.header; vectors = c.in_ok-clone.field-0; features = c.in_ok-visible_features.field-0 } in
    let same : shown ≡ chart_on (date_of c.args.day) cell = search rules in
    cell_on (date_of c.args.day) cell shown c.cell.invariant same

pub returns-clause-exact : goal.returns-clause-exact
returns-clause-exact c =
    let shown : CellValue =
    record { header = c.cell.inside.header; vectors = c.in_ok-clone.field-0; features = c.in_ok-visible_features.field-0 } in
    let same : shown ≡ chart_on (date_of c.args.day) c.args.cell.now = search rules in
    chart_on_like (date_of c.args.day) c.args.cell.now shown same
