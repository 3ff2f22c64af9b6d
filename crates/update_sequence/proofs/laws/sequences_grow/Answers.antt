use Rattle.update_sequence.proofs.Sequences.{sequence-first, sequence-next, sequence-before}
use Rattle.update_sequence.proofs.laws.sequences_grow.Goals as goal

pub returns-clause-first : goal.returns-clause-first
returns-clause-first c = sequence-first

pub returns-clause-next : goal.returns-clause-next
returns-clause-next c = λ key files file sequence follows. sequence-next key files file sequence.each follows

pub returns-clause-before : goal.returns-clause-before
returns-clause-before c = sequence-before
