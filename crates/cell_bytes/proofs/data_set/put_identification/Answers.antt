use Rattle.std.proofs.Common.{arith}
use Rattle.chart_model.specs.Cell.{IsChartHeader}
use Rattle.cell_bytes.specs.FieldValues.{IsFourBytes}
use Rattle.cell_bytes.specs.RecordsRead.{IsHeaderInRange}
use Rattle.cell_bytes.proofs.Ranges.{IfOk-always}
use Rattle.cell_bytes.proofs.data_set.put_identification.Goals as goal

pub returns-clause-in_range : goal.returns-clause-in_range
returns-clause-in_range c =
    let range : IsChartHeader c.args.header.now → IsFourBytes c.args.header.now.scale → IsHeaderInRange c.args.header.now =
    λ chart scale. record { chart = chart; issued = c.put_dates.ensures.issued; agency = omega arith; scale = scale } in
    IfOk-always c.put_product.result range
