use Rattle.std.proofs.Common.{ℕ, ◌<◌, get_or}
use Rattle.plane_geometry.specs.declared.point.Pt.{Pt}
use Rattle.plane_bounds.specs.Bounds.{IsIn}
use Rattle.depth_values.proofs.asked.bounds_round.Given as goal

abbrev pub invariant-loop-p : goal.invariant-loop-p
invariant-loop-p l = (k : ℕ) (d : Pt) → k < l.p-index → IsIn l.bounds (get_or l.points k d)
