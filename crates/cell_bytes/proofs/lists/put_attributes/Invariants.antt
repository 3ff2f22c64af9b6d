use Rattle.std.proofs.Common.{◌≡◌, ◌++◌, take}
use Rattle.std.specs.List.{AllByRecursion, flat_map}
use Rattle.chart_model.specs.Attrs.{texts_by_code}
use Rattle.cell_bytes.specs.Vector.{attribute}
use Rattle.chart_model.specs.Cell.{IsKeptText}
use Rattle.cell_bytes.specs.FieldValues.{IsEntryInRange}
use Rattle.cell_bytes.proofs.lists.put_attributes.Given as goal

abbrev pub invariant-loop-attr : goal.invariant-loop-attr
invariant-loop-attr l = record {
  bytes : l.out ≡ l.initial.out ++ flat_map (λ entry. attribute entry.0 entry.1) (texts_by_code (take l.attr-index l.attr-items));
  in_range : AllByRecursion (λ attr. IsKeptText attr.value → IsEntryInRange (attr.code, attr.value)) (take l.attr-index l.attr-items);
}
