use Rattle.std.proofs.Common.{◌≡◌, ◌++◌, drop}
use Rattle.std.specs.List.{flat_map}
use Rattle.depth_symbology.specs.Contours.{contour_on}
use Rattle.depth_symbology.proofs.contours.push_depcnt02.Given as goal

abbrev pub invariant-loop-pointer : goal.invariant-loop-pointer
invariant-loop-pointer l =
    l.items ++ flat_map (contour_on l.cell l.is_safety) (drop l.pointer-index l.pointer-items)
    ≡ l.initial.items ++ flat_map (contour_on l.cell l.is_safety) l.feature.pointers
