use Rattle.std.proofs.Common.{◌≡◌, ◌++◌, drop}
use Rattle.std.specs.List.{filter_map}
use Rattle.depth_values.specs.Marks.{mark_at}
use Rattle.depth_values.proofs.under.marks_at.Given as goal

abbrev pub invariant-loop-place : goal.invariant-loop-place
invariant-loop-place l =
    l.marks.items ++ filter_map (mark_at l.areas) (drop l.place-index l.places) ≡ filter_map (mark_at l.areas) l.places
