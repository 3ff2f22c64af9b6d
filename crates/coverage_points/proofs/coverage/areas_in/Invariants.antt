use Rattle.std.proofs.Common.{◌≡◌, ◌++◌}
use Rattle.std.specs.List.{flat_map}
use Rattle.coverage_points.specs.Coverage.{coverage_under, coverage_in}
use Rattle.coverage_points.proofs.coverage.areas_in.Given as goal

abbrev pub invariant-loop-holding : goal.invariant-loop-holding
invariant-loop-holding l =
    l.areas.items ++ flat_map (λ entry. coverage_under entry.1.chart) l.holding-iterator ≡ coverage_in l.state
