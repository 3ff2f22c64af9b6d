use Rattle.depth_values.proofs.Leasts.{least_found, least_again}
use Rattle.depth_values.proofs.laws.least_is_least.Goals as goal

pub returns : goal.returns
returns c = λ numbers n. (least_found numbers n, least_again numbers n)
