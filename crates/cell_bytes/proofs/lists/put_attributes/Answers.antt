use Rattle.std.proofs.Common.{List, arith}
use Rattle.std.proofs.lemmas.Grind.{common_steps}
use Rattle.std.specs.List.{AllByRecursion}
use Rattle.chart_model.specs.declared.record.Attr.{Attr}
use Rattle.chart_model.specs.Cell.{IsKeptText}
use Rattle.cell_bytes.specs.FieldValues.{IsEntryInRange}
use Rattle.cell_bytes.proofs.Ranges.{attributes_in_range}
use Rattle.cell_bytes.proofs.lists.put_attributes.Goals as goal

pub returns-clause-in_range : goal.returns-clause-in_range
returns-clause-in_range c =
    let items : List Attr = c.as_slice-attr-items.result.now in
    let each : AllByRecursion (λ (attr : Attr). IsKeptText attr.value → IsEntryInRange (attr.code, attr.value)) items = grind (arith, common_steps) in
    attributes_in_range c.args.attrs.now items c.as_slice-attr-items.ensures each
