use Rattle.std.proofs.Common.{◌≡◌, ◌++◌, take}
use Rattle.std.specs.List.{AllByRecursion, flat_map}
use Rattle.cell_bytes.specs.Feature.{feature_pointer}
use Rattle.cell_bytes.specs.FieldValues.{IsPointerInRange}
use Rattle.cell_bytes.proofs.lists.put_feature_pointers.Given as goal

abbrev pub invariant-loop-pointer : goal.invariant-loop-pointer
invariant-loop-pointer l = record {
  bytes : l.out ≡ l.initial.out ++ flat_map feature_pointer (take l.pointer-index l.pointers);
  in_range : AllByRecursion IsPointerInRange (take l.pointer-index l.pointers);
}
