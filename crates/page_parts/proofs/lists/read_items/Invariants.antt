use Rattle.std.proofs.Common.{◌≡◌, ◌-◌}
use Rattle.page_parts.specs.Lists.{items_at}
use Rattle.page_parts.proofs.ListsRead.{behind}
use Rattle.page_parts.proofs.lists.read_items.Given as goal

abbrev pub invariant-loop : goal.invariant-loop
invariant-loop g l =
    behind l.items.items (items_at g.P.Part.part_at (l.count - l.counter) l.rest) ≡ items_at g.P.Part.part_at l.count l.bytes
