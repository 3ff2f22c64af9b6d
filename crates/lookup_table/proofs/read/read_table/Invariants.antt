-- The lines that were read, and what they say.
use Rattle.lookup_table.proofs.Progress.{IsReadSoFar}
use Rattle.lookup_table.proofs.read.read_table.Given as goal

abbrev pub invariant-loop-number : goal.invariant-loop-number
invariant-loop-number l = IsReadSoFar l.fn.catalogue l.fn.bytes l.table l.number-iterator
