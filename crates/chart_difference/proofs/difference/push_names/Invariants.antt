use Rattle.std.proofs.Common.{◌≡◌, ◌++◌}
use Rattle.std.specs.Prelude as list
use Rattle.std.specs.FinMap as map
use Rattle.chart_difference.proofs.difference.push_names.Given as goal

abbrev pub invariant-loop-name : goal.invariant-loop-name
invariant-loop-name g l =
    l.names.items ++ list.map (λ entry. entry.0) l.name-iterator ≡ l.initial.names.items ++ map.keys l.records
