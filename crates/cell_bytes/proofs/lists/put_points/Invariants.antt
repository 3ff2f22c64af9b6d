use Rattle.std.proofs.Common.{◌≡◌, ◌++◌, take}
use Rattle.std.specs.List.{flat_map}
use Rattle.cell_bytes.specs.Vector.{point}
use Rattle.cell_bytes.proofs.lists.put_points.Given as goal

abbrev pub invariant-loop-coord : goal.invariant-loop-coord
invariant-loop-coord l = l.out ≡ l.initial.out ++ flat_map point (take l.coord-index l.coords)
