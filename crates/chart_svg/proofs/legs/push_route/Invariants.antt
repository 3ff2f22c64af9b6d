use Rattle.std.proofs.Common.{◌≡◌, ◌++◌, take, map}
use Rattle.std.specs.List.{enumerate_from}
use Rattle.route_check.specs.Route.{legs_of}
use Rattle.chart_svg.specs.Voyage.{leg_element}
use Rattle.chart_svg.proofs.legs.push_route.Given as goal

abbrev pub invariant-loop-before : goal.invariant-loop-before
invariant-loop-before l =
    l.elements ≡ l.initial.elements ++ map (leg_element l.view l.look) (take l.before (enumerate_from 1 (legs_of l.route)))
