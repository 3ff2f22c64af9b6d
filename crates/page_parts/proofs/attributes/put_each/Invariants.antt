use Rattle.std.proofs.Common.{◌≡◌, ◌++◌, take}
use Rattle.std.specs.List.{AllByRecursion, flat_map}
use Rattle.chart_model.specs.Attrs.{texts_by_code}
use Rattle.page_parts.specs.Attributes.{IsEntryInRange, attribute}
use Rattle.page_parts.proofs.attributes.put_each.Given as goal

abbrev pub invariant-loop-attr : goal.invariant-loop-attr
invariant-loop-attr l = record {
  bytes : l.out ≡ l.initial.out ++ flat_map attribute (texts_by_code (take l.attr-index l.attr-items));
  in_range : AllByRecursion (λ attr. IsEntryInRange (attr.code, attr.value)) (take l.attr-index l.attr-items);
}
