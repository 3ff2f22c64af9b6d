-- The lines that were read, and what they say.
use Rattle.colour_table.proofs.Progress.{IsReadSoFar}
use Rattle.colour_table.proofs.read.read_colours.Given as goal

abbrev pub invariant-loop-number : goal.invariant-loop-number
invariant-loop-number l = IsReadSoFar l.fn.bytes l.colours l.number-iterator
