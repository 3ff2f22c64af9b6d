use Rattle.std.proofs.Common.{◌≡◌, ◌++◌, take}
use Rattle.std.specs.List.{AllByRecursion, flat_map}
use Rattle.page_parts.proofs.lists.put_items.Given as goal

abbrev pub invariant-loop-item : goal.invariant-loop-item
invariant-loop-item g l = record {
  bytes : l.out ≡ l.initial.out ++ flat_map g.P.Part.spelling (take l.item-index l.items);
  in_range : AllByRecursion g.P.Part.is_in_range (take l.item-index l.items);
}
