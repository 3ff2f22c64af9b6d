use Rattle.std.proofs.Common.{All, IsNone}
use Rattle.chart_model.specs.Record.{IsCoord}
use Rattle.sample_rows.proofs.lists.plain_coords.Given as goal

abbrev pub invariant-loop-item : goal.invariant-loop-item
invariant-loop-item l = All IsCoord l.coords × All (λ coord. IsNone coord.z) l.coords
