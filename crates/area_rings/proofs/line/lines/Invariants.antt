use Rattle.std.proofs.Common.{◌≡◌, ◌++◌, drop, option_map}
use Rattle.area_rings.specs.Shape.{lines_of}
use Rattle.area_rings.proofs.line.lines.Given as goal

abbrev pub invariant-loop-pointer : goal.invariant-loop-pointer
invariant-loop-pointer l = lines_of l.cell l.pointers ≡ option_map (λ more. l.lines ++ more) (lines_of l.cell (drop l.pointer-index l.pointers))
