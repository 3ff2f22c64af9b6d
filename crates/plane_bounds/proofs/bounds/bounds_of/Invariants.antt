use Rattle.std.proofs.Common.{ℕ, List, ◌<◌, get_or}
use Rattle.std.specs.List.{All}
use Rattle.plane_geometry.specs.declared.point.Pt.{Pt}
use Rattle.plane_bounds.specs.declared.bounds.Bounds.{Bounds}
use Rattle.plane_bounds.specs.Bounds.{IsIn, IsBox, Holds, RingsIn}
use Rattle.plane_bounds.proofs.bounds.bounds_of.Given as goal

abbrev pub invariant-loop-ring : goal.invariant-loop-ring
invariant-loop-ring l = record {
  there : (k : ℕ) (d : List Pt) → k < l.ring-index → All (IsIn l.bounds) (get_or l.rings k d);
  least : (other : Bounds) → IsBox other → RingsIn other l.rings → Holds other l.bounds;
}
