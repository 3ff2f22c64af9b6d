use Rattle.std.proofs.Common.{◌≡◌, ◌++◌, drop, List}
use Rattle.std.specs.List.{flat_map}
use Rattle.plane_geometry.specs.declared.point.Pt.{Pt}
use Rattle.depth_values.proofs.under.push_parts.Given as goal

abbrev pub invariant-loop-part : goal.invariant-loop-part
invariant-loop-part l =
    l.points.items ++ flat_map (λ (part : List Pt). part) (drop l.part-index l.parts)
    ≡ l.initial.points.items ++ flat_map (λ (part : List Pt). part) l.parts
