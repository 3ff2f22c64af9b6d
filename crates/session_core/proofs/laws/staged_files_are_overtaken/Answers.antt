use Rattle.session_core.proofs.Overtaking.{begun-stages, commit-exact, commit-taken, still-along}
use Rattle.session_core.proofs.Replying.{turn-overtaken}
use Rattle.session_core.proofs.laws.staged_files_are_overtaken.Goals as goal

pub returns-clause-begun : goal.returns-clause-begun
returns-clause-begun c = begun-stages

pub returns-clause-still : goal.returns-clause-still
returns-clause-still c = still-along

pub returns-clause-exact : goal.returns-clause-exact
returns-clause-exact c = commit-exact

pub returns-clause-taken : goal.returns-clause-taken
returns-clause-taken c = commit-taken

pub returns-clause-alone : goal.returns-clause-alone
returns-clause-alone c = λ outside model event values refused. (turn-overtaken outside model event values refused).0
