use Rattle.std.proofs.Common.{◌≡◌}
use Rattle.std.specs.FinMap as finite
use Rattle.chart_closure.specs.Closed.{vector_fault}
use Rattle.chart_closure.proofs.Least.{first_fault}
use Rattle.chart_closure.proofs.closure.check_vectors.Given as goal

abbrev pub invariant-loop-name : goal.invariant-loop-name
invariant-loop-name l = first_fault (vector_fault l.cell) l.name-iterator ≡ first_fault (vector_fault l.cell) (finite.entries l.cell.vectors)
