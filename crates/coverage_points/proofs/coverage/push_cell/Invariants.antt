use Rattle.std.proofs.Common.{◌≡◌, ◌++◌}
use Rattle.std.specs.List.{flat_map}
use Rattle.coverage_points.specs.Coverage.{coverage_at, coverage_of}
use Rattle.coverage_points.proofs.coverage.push_cell.Given as goal

abbrev pub invariant-loop-feature : goal.invariant-loop-feature
invariant-loop-feature l =
    l.areas.items ++ flat_map (λ entry. coverage_at l.cell entry.1) l.feature-iterator
    ≡ l.initial.areas.items ++ coverage_of l.cell
