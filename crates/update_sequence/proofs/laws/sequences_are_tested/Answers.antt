use Rattle.update_sequence.proofs.SequenceTests.{sequence-is, sequence-tested}
use Rattle.update_sequence.proofs.laws.sequences_are_tested.Goals as goal

pub returns : goal.returns
returns c = λ key files. (sequence-is key files, sequence-tested key files)
