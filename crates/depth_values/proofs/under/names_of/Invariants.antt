use Rattle.std.proofs.Common.{◌≡◌, map, take}
use Rattle.depth_values.specs.declared.depth_area.AreaMark.{AreaMark}
use Rattle.depth_values.proofs.under.names_of.Given as goal

abbrev pub invariant-loop-mark : goal.invariant-loop-mark
invariant-loop-mark l = l.names ≡ map (λ (mark : AreaMark). mark.name) (take l.mark-index l.marks)
