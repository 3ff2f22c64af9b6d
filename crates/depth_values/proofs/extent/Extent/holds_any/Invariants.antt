use Rattle.std.proofs.Common.{◌≡◌, drop}
use Rattle.std.specs.List.{list_any}
use Rattle.plane_geometry.specs.declared.point.Pt.{Pt}
use Rattle.plane_bounds.specs.Inside.{is_inside}
use Rattle.depth_values.proofs.extent.Extent.holds_any.Given as goal

abbrev pub invariant-loop-p : goal.invariant-loop-p
invariant-loop-p l =
    list_any (λ (p : Pt). is_inside p l.self.rings) (drop l.p-index l.points) ≡ list_any (λ (p : Pt). is_inside p l.self.rings) l.points
