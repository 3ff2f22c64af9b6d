use Rattle.std.proofs.Common.{All, take}
use Rattle.spatial_grid.specs.Kept.{KeepsBox}
use Rattle.spatial_grid.proofs.kept.keeps_boxes.Given as goal

abbrev pub invariant-loop-name : goal.invariant-loop-name
invariant-loop-name l = All (KeepsBox l.old l.new) (take l.name-index l.names)
