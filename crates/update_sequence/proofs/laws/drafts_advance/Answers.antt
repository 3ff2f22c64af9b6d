use Rattle.update_sequence.proofs.Drafts.{finished-advanced, moves-advanced, advances-none, advances-turn}
use Rattle.update_sequence.proofs.laws.drafts_advance.Goals as goal

pub returns-clause-comes : goal.returns-clause-comes
returns-clause-comes c = finished-advanced

pub returns-clause-budget : goal.returns-clause-budget
returns-clause-budget c = moves-advanced

pub returns-clause-none : goal.returns-clause-none
returns-clause-none c = advances-none

pub returns-clause-turn : goal.returns-clause-turn
returns-clause-turn c = advances-turn
