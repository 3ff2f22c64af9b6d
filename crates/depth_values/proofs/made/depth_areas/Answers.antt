use Rattle.depth_values.proofs.Found.{are_made}
use Rattle.depth_values.proofs.made.depth_areas.Goals as goal

pub with_feature-requires : goal.with_feature-requires
with_feature-requires c = are_made c.args.cell.now c.loop-name.list _ c.loop-name.invariant
