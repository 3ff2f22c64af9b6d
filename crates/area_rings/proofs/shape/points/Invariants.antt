use Rattle.std.proofs.Common.{◌≡◌, ◌++◌, drop, option_map}
use Rattle.area_rings.specs.Shape.{points_of}
use Rattle.area_rings.proofs.shape.points.Given as goal

abbrev pub invariant-loop-pointer : goal.invariant-loop-pointer
invariant-loop-pointer l = points_of l.cell l.pointers ≡ option_map (λ more. l.coords.items ++ more) (points_of l.cell (drop l.pointer-index l.pointers))
