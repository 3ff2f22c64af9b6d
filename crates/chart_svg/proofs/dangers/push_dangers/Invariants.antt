use Rattle.std.proofs.Common.{◌≡◌, ◌++◌, take, map}
use Rattle.chart_svg.specs.Dangers.{danger_element}
use Rattle.chart_svg.proofs.dangers.push_dangers.Given as goal

abbrev pub invariant-loop-danger : goal.invariant-loop-danger
invariant-loop-danger l =
    l.elements ≡ l.initial.elements ++ map (danger_element l.view l.look l.charts) (take l.danger-index l.dangers)
