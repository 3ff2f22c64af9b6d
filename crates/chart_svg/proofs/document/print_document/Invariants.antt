use Rattle.std.proofs.Common.{◌≡◌, ◌++◌, take}
use Rattle.std.specs.List.{flat_map}
use Rattle.chart_svg.specs.Spelling.{element_text}
use Rattle.chart_svg.specs.Document.{head_text}
use Rattle.chart_svg.proofs.document.print_document.Given as goal

abbrev pub invariant-loop-element : goal.invariant-loop-element
invariant-loop-element l = l.out ≡ head_text l.view ++ flat_map element_text (take l.element-index l.element-items)
