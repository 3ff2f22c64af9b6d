use Rattle.std.proofs.Common.{◌≡◌}
use Rattle.std.specs.Vec.Iter.{into_iter_items}
use Rattle.std.specs.FinMap as map
use Rattle.colour_table.proofs.NamedTables.{with_each}
use Rattle.colour_table.proofs.named.NamedMap.of.Given as goal

abbrev pub invariant-loop-name : goal.invariant-loop-name
invariant-loop-name g l = with_each l.named (into_iter_items l.name-iterator) ≡ map.from_entries l.fn.entries
