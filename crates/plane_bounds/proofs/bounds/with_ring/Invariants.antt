use Rattle.std.proofs.Common.{ℕ, ◌<◌, get_or}
use Rattle.std.specs.List.{All}
use Rattle.plane_geometry.specs.declared.point.Pt.{Pt}
use Rattle.plane_bounds.specs.declared.bounds.Bounds.{Bounds}
use Rattle.plane_bounds.specs.Bounds.{IsIn, Holds}
use Rattle.plane_bounds.proofs.bounds.with_ring.Given as goal

abbrev pub invariant-loop-p : goal.invariant-loop-p
invariant-loop-p l = record {
  kept : Holds l.grown l.fn.bounds;
  there : (k : ℕ) (d : Pt) → k < l.p-index → IsIn l.grown (get_or l.ring k d);
  least : (other : Bounds) → Holds other l.fn.bounds → All (IsIn other) l.ring → Holds other l.grown;
}
