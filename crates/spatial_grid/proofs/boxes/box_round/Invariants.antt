use Rattle.std.proofs.Common.{◌≡◌, drop, Option}
use Rattle.std.specs.List.{fold}
use Rattle.std.specs.FinMap as finite
use Rattle.chart_model.specs.Names.{name_cmp}
use Rattle.chart_model.specs.declared.record.Pointer.{Pointer}
use Rattle.plane_bounds.specs.declared.bounds.Bounds.{Bounds}
use Rattle.spatial_grid.specs.Boxes.{around_both, box_round}
use Rattle.spatial_grid.proofs.boxes.box_round.Given as goal

abbrev pub invariant-loop-pointer : goal.invariant-loop-pointer
invariant-loop-pointer l =
    fold (λ (found : Option Bounds) (pointer : Pointer). around_both found (finite.find name_cmp pointer.target l.boxes)) l.found (drop l.pointer-index l.pointers)
    ≡ box_round l.boxes l.pointers
