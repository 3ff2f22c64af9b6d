use Rattle.std.proofs.Common.{◌≡◌}
use Rattle.std.specs.Vec.Iter.{into_iter_items}
use Rattle.lookup_table.specs.Reading.{each}
use Rattle.lookup_table.specs.Named.{named_condition}
use Rattle.lookup_table.proofs.Each.{front}
use Rattle.lookup_table.proofs.named.name_conditions.Given as goal

abbrev pub invariant-loop-condition : goal.invariant-loop-condition
invariant-loop-condition l =
    front l.conditions (each (named_condition l.fn.catalogue) (into_iter_items l.condition-iterator)) ≡ each (named_condition l.fn.catalogue) l.fn.written
