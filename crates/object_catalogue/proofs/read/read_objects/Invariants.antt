-- The lines that were read, and what they say.
use Rattle.object_catalogue.proofs.Progress.{IsReadSoFar}
use Rattle.object_catalogue.proofs.read.read_objects.Given as goal

abbrev pub invariant-loop-number : goal.invariant-loop-number
invariant-loop-number l = IsReadSoFar l.fn.bytes l.catalogue l.number-iterator
