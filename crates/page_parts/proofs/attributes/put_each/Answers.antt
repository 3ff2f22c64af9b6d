use Rattle.std.proofs.Common.{List, arith, subst}
use Rattle.std.proofs.lemmas.Grind.{common_steps}
use Rattle.std.specs.List.{AllByRecursion}
use Rattle.chart_model.specs.declared.record.Attr.{Attr}
use Rattle.page_parts.specs.Attributes.{IsEntryInRange}
use Rattle.page_parts.proofs.AttributesRead.{by_code}
use Rattle.page_parts.proofs.attributes.put_each.Goals as goal

pub returns-clause-in_range : goal.returns-clause-in_range
returns-clause-in_range c =
    let items : List Attr = c.as_slice-attr-items.result.now in
    let each : AllByRecursion (λ (attr : Attr). IsEntryInRange (attr.code, attr.value)) items = grind (arith, common_steps) in
    subst (AllByRecursion IsEntryInRange) c.as_slice-attr-items.ensures (by_code IsEntryInRange items each)
