use Rattle.std.proofs.Common.{sym, ◌∙◌, ap}
use Rattle.std.specs.Option.{option_copied}
use Rattle.std.specs.FinMap as map
use Rattle.chart_model.specs.Cell.{CellValue}
use Rattle.draw_list.proofs.Shown.{shown_by}
use Rattle.draw_list.proofs.block.block_of.Goals as goal

pub returns-in-Some-clause-shown : goal.returns-in-Some-clause-shown
returns-in-Some-clause-shown c =
    shown_by c.numbers_are_spelled.ensures.number c.args.cell.now c.args.table.now c.args.settings.now c.args.name c.in-Some.feature.now c.block_in.result
    (ap (λ (cell : CellValue). map.get cell.features c.args.name) (sym c.cell.view_is) ∙ sym c.get.ensures ∙ ap option_copied c.in-Some.is) c.block_in.ensures.block

pub block_in-requires : goal.block_in-requires
block_in-requires c = c.nothing.ensures c.args.cell.now c.args.settings.now
