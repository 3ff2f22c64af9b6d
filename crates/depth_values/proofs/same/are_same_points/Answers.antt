use Rattle.std.proofs.Common.{sym, ◌∙◌}
use Rattle.depth_values.proofs.Points.{point_lists}
use Rattle.depth_values.proofs.same.are_same_points.Goals as goal

pub returns : goal.returns
returns c = λ so. (point_lists c.args.one.now c.args.other.now).0 (sym c.eq.ensures ∙ so)
