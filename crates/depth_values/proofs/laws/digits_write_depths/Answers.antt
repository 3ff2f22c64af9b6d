use Rattle.depth_values.proofs.Written.{written}
use Rattle.depth_values.proofs.laws.digits_write_depths.Goals as goal

pub returns : goal.returns
returns c = written
