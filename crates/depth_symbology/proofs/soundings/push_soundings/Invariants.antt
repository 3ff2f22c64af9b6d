use Rattle.std.proofs.Common.{◌≡◌, ◌++◌, drop}
use Rattle.depth_symbology.specs.Soundings.{soundings_of}
use Rattle.depth_symbology.proofs.soundings.push_soundings.Given as goal

abbrev pub invariant-loop-coord : goal.invariant-loop-coord
invariant-loop-coord l =
    l.items ++ soundings_of l.settings (drop l.coord-index l.coords) ≡ l.initial.items ++ soundings_of l.settings l.coords
