use Rattle.std.proofs.Common.{◌≡◌, ◌++◌, take}
use Rattle.std.specs.List.{flat_map}
use Rattle.chart_svg.specs.Outline.{step_text}
use Rattle.chart_svg.proofs.outline.push_steps.Given as goal

abbrev pub invariant-loop-spot : goal.invariant-loop-spot
invariant-loop-spot l = l.out ≡ l.initial.out ++ flat_map (step_text 76) (take l.spot-index l.spots)
