-- the lines of the legs up to the index
use Rattle.std.proofs.Common.{◌≡◌, take}
use Rattle.session_lists.specs.Cover.{uncovered_lines}
use Rattle.session_lists.proofs.cover.print_uncovered.Given as goal

abbrev pub invariant-loop-leg : goal.invariant-loop-leg
invariant-loop-leg l = l.lines ≡ uncovered_lines (take l.leg-index l.legs)
