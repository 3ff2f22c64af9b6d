use Rattle.std.proofs.Common.{◌≡◌, ◌++◌, drop}
use Rattle.std.specs.List.{flat_map}
use Rattle.depth_symbology.specs.DepthArea.{contours_on}
use Rattle.depth_symbology.specs.EdgeAnswers.{AreAnswers}
use Rattle.depth_symbology.proofs.depth_area.push_contours.Given as goal

abbrev pub invariant-loop-pointer : goal.invariant-loop-pointer
invariant-loop-pointer l =
    (l.items ++ flat_map (contours_on l.cell l.contour) (drop l.pointer-index l.pointer-items)
    ≡ l.initial.items ++ flat_map (contours_on l.cell l.contour) l.feature.pointers)
    × AreAnswers l.cell l.contour l.answers
