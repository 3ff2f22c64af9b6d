use Rattle.std.proofs.Common.{◌≡◌, ◌++◌, take}
use Rattle.std.specs.List.{flat_map}
use Rattle.chart_svg.specs.Outline.{outline_text}
use Rattle.chart_svg.proofs.outline.push_outlines.Given as goal

abbrev pub invariant-loop-line : goal.invariant-loop-line
invariant-loop-line l = l.out ≡ l.initial.out ++ flat_map (outline_text l.ending) (take l.line-index l.lines)
