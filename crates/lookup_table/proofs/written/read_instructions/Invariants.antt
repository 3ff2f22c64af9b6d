use Rattle.std.proofs.Common.{◌≡◌}
use Rattle.text_lines.specs.Lines.{parts_at}
use Rattle.lookup_table.specs.Reading.{each, instruction_of}
use Rattle.lookup_table.proofs.Each.{front}
use Rattle.lookup_table.proofs.written.read_instructions.Given as goal

abbrev pub invariant-loop-part : goal.invariant-loop-part
invariant-loop-part l = front l.instructions (each instruction_of l.part-iterator) ≡ each instruction_of (parts_at 59 l.fn.text)
