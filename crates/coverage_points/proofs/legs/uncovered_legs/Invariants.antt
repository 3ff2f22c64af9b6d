use Rattle.std.proofs.Common.{◌≡◌, ◌+◌, ◌++◌, drop}
use Rattle.std.specs.List.{flat_map, enumerate_from}
use Rattle.coverage_points.specs.Coverage.{coverage_in}
use Rattle.coverage_points.specs.Uncovered.{uncovered_at, uncovered_of}
use Rattle.coverage_points.proofs.legs.uncovered_legs.Given as goal

abbrev pub invariant-loop-before : goal.invariant-loop-before
invariant-loop-before l =
    l.numbers.items ++ flat_map (uncovered_at (coverage_in l.state)) (enumerate_from (l.before + 1) (drop l.before l.legs))
    ≡ uncovered_of l.state l.legs
