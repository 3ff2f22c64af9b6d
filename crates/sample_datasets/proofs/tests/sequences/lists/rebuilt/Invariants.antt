use Rattle.std.proofs.Common.{Some}
use Rattle.update_sequence.specs.Sequence.{Leaves}
use Rattle.sample_datasets.proofs.tests.sequences.lists.rebuilt.Given as goal

-- what was taken over so far
abbrev pub invariant-loop-records : goal.invariant-loop-records
invariant-loop-records g l = Leaves l.key l.taken.files (Some l.taken.held) l.taken.chart
