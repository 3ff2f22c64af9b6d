use Rattle.std.proofs.Common.{◌≡◌, ◌+◌, ◌++◌, drop}
use Rattle.std.specs.List.{flat_map, enumerate_from}
use Rattle.route_check.specs.Danger.{sounding_at}
use Rattle.route_check.proofs.chart_objects.push_coords.Given as goal

abbrev pub invariant-loop-at : goal.invariant-loop-at
invariant-loop-at l =
    l.objects.items
    ++ flat_map (sounding_at l.from.key l.rcid l.from.settings.now.safety_depth) (enumerate_from (l.at + 1) (drop l.at l.coords))
    ≡ l.initial.objects.items
    ++ flat_map (sounding_at l.from.key l.rcid l.from.settings.now.safety_depth) (enumerate_from 1 l.coords)
