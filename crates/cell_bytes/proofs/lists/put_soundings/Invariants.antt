use Rattle.std.proofs.Common.{◌≡◌, ◌++◌, take}
use Rattle.std.specs.List.{AllByRecursion, flat_map}
use Rattle.cell_bytes.specs.Vector.{sounding}
use Rattle.cell_bytes.specs.FieldValues.{IsCoordInRange}
use Rattle.cell_bytes.proofs.lists.put_soundings.Given as goal

abbrev pub invariant-loop-coord : goal.invariant-loop-coord
invariant-loop-coord l = record {
  bytes : l.out ≡ l.initial.out ++ flat_map sounding (take l.coord-index l.coords);
  in_range : AllByRecursion IsCoordInRange (take l.coord-index l.coords);
}
