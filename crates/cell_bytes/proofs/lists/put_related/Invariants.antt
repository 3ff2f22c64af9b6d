use Rattle.std.proofs.Common.{◌≡◌, ◌++◌, take}
use Rattle.std.specs.List.{AllByRecursion, flat_map}
use Rattle.cell_bytes.specs.Feature.{related_object}
use Rattle.cell_bytes.specs.FieldValues.{IsRelatedInRange}
use Rattle.cell_bytes.proofs.lists.put_related.Given as goal

abbrev pub invariant-loop-object : goal.invariant-loop-object
invariant-loop-object l = record {
  bytes : l.out ≡ l.initial.out ++ flat_map related_object (take l.object-index l.related);
  in_range : AllByRecursion IsRelatedInRange (take l.object-index l.related);
}
