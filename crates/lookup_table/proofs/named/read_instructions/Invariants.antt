use Rattle.std.proofs.Common.{◌≡◌}
use Rattle.std.specs.Vec.Iter.{into_iter_items}
use Rattle.lookup_table.specs.Reading.{each}
use Rattle.lookup_table.specs.Named.{instruction_in}
use Rattle.lookup_table.proofs.Each.{front}
use Rattle.lookup_table.proofs.named.read_instructions.Given as goal

abbrev pub invariant-loop-text : goal.invariant-loop-text
invariant-loop-text l =
    front l.instructions (each instruction_in (into_iter_items l.text-iterator)) ≡ each instruction_in l.fn.written
