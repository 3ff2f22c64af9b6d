use Rattle.std.proofs.Common.{◌≡◌, ◌+◌}
use Rattle.std.specs.Prelude.{count_by}
use Rattle.std.specs.Int.{is_in_range}
use Rattle.std.specs.FinMap as map
use Rattle.cell_bytes.proofs.data_set.count_features.Given as goal

abbrev pub invariant-loop-feature : goal.invariant-loop-feature
invariant-loop-feature l =
    l.count + count_by (λ entry. is_in_range l.first l.last entry.1.class) l.feature-iterator ≡ count_by (λ entry. is_in_range l.first l.last entry.1.class) (map.entries l.cell.features)
