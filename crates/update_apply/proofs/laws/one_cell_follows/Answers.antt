use Rattle.update_apply.proofs.OneChange.{change-follows, no-other-follows}
use Rattle.update_apply.proofs.laws.one_cell_follows.Goals as goal

pub returns-clause-follows : goal.returns-clause-follows
returns-clause-follows c = change-follows

pub returns-clause-alone : goal.returns-clause-alone
returns-clause-alone c = λ cell change after has is. no-other-follows cell change has after is
