use Rattle.depth_values.proofs.SmallDepths.{small_answer}
use Rattle.depth_values.proofs.attributes.depth_at.Goals as goal

pub returns-clause-small : goal.returns-clause-small
returns-clause-small c = small_answer _ c.read_depth.result c.read_depth.ensures.found
