use Rattle.session_core.proofs.Targets.{target-is}
use Rattle.session_core.proofs.laws.targets_are_the_blocks_of_charts.Goals as goal

pub returns : goal.returns
returns c = λ portrayal cells key name. target-is portrayal key name cells
