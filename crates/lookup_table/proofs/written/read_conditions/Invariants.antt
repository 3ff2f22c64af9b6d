use Rattle.std.proofs.Common.{◌≡◌}
use Rattle.text_lines.specs.Lines.{parts_at}
use Rattle.lookup_table.specs.Reading.{each, condition_of}
use Rattle.lookup_table.proofs.Each.{front}
use Rattle.lookup_table.proofs.written.read_conditions.Given as goal

abbrev pub invariant-loop-part : goal.invariant-loop-part
invariant-loop-part l = front l.conditions (each condition_of l.part-iterator) ≡ each condition_of (parts_at 43 l.fn.word)
