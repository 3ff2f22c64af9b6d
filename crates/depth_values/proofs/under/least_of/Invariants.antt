use Rattle.std.proofs.Common.{◌≡◌, map, drop, None}
use Rattle.std.specs.List.{fold}
use Rattle.depth_values.specs.declared.depth_area.AreaMark.{AreaMark}
use Rattle.depth_values.specs.Under.{lesser}
use Rattle.depth_values.proofs.under.least_of.Given as goal

abbrev pub invariant-loop-mark : goal.invariant-loop-mark
invariant-loop-mark l =
    fold lesser l.least (map (λ (mark : AreaMark). mark.d1) (drop l.mark-index l.marks))
    ≡ fold lesser None (map (λ (mark : AreaMark). mark.d1) l.marks)
