use Rattle.std.proofs.Common.{Some, Vec, Global, sym, ◌∙◌, ap}
use Rattle.chart_model.specs.Cell.{CellValue}
use Rattle.chart_model.specs.declared.name.Name.{Name}
use Rattle.update_sequence.specs.Built.{begun}
use Rattle.update_sequence.proofs.Asked.{enough-first}
use Rattle.update_sequence.proofs.draft.Draft.of_update.Goals as goal

pub invariant_of-result : goal.invariant_of-result
invariant_of-result c =
    enough-first (λ (names : Vec Name Global). names.items) c.in_ok-asked.asked c.closed_charts_stay_closed.ensures
    c.args.chart.now c.begin.result c.dataset.inside.header c.as_slice.result.now c.from_vec.result.items
    c.requires.closed
    (c.begin.ensures ∙ ap (λ (chart : CellValue). begun (Some chart) c.dataset.inside.header) c.in_ok-copy.ensures)
    (c.from_vec.ensures.items ∙ c.into_vec.ensures ∙ sym c.as_slice.ensures)
    c.in_ok-asked.ensures.local c.in_ok-asked.ensures.names
