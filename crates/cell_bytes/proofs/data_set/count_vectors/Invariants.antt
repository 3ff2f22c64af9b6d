use Rattle.std.proofs.Common.{◌≡◌, ◌+◌, ◌==◌}
use Rattle.std.specs.Prelude.{count_by}
use Rattle.std.specs.FinMap as map
use Rattle.cell_bytes.proofs.data_set.count_vectors.Given as goal

abbrev pub invariant-loop-name : goal.invariant-loop-name
invariant-loop-name l =
    l.count + count_by (λ entry. entry.0.rcnm == l.rcnm) l.name-iterator ≡ count_by (λ entry. entry.0.rcnm == l.rcnm) (map.entries l.cell.vectors)
