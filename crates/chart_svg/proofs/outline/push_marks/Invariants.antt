use Rattle.std.proofs.Common.{◌≡◌, ◌++◌, take}
use Rattle.std.specs.List.{flat_map}
use Rattle.chart_svg.specs.Escape.{escaped}
use Rattle.chart_svg.specs.Outline.{mark_text}
use Rattle.chart_svg.proofs.outline.push_marks.Given as goal

abbrev pub invariant-loop-spot : goal.invariant-loop-spot
invariant-loop-spot l = l.out ≡ l.initial.out ++ flat_map (mark_text (escaped l.path)) (take l.spot-index l.spots)
