-- the lines of the dangers up to the index
use Rattle.std.proofs.Common.{◌≡◌, take}
use Rattle.session_lists.specs.Route.{danger_lines}
use Rattle.session_lists.proofs.route.print_dangers.Given as goal

abbrev pub invariant-loop-danger : goal.invariant-loop-danger
invariant-loop-danger l = l.lines ≡ danger_lines (take l.danger-index l.dangers)
