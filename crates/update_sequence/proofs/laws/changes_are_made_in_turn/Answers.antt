use Rattle.std.proofs.Common.{refl}
use Rattle.update_sequence.specs.Built.{folded}
use Rattle.update_sequence.proofs.Folding.{folded-one, folded-append}
use Rattle.update_sequence.proofs.laws.changes_are_made_in_turn.Goals as goal

pub returns-clause-none : goal.returns-clause-none
unfolding folded
returns-clause-none c = λ cell. refl

pub returns-clause-one : goal.returns-clause-one
returns-clause-one c = folded-one

pub returns-clause-turn : goal.returns-clause-turn
returns-clause-turn c = folded-append
