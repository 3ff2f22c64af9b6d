use Rattle.std.proofs.Common.{All, IsSome}
use Rattle.chart_model.specs.Record.{IsCoord}
use Rattle.sample_rows.proofs.lists.soundings.Given as goal

abbrev pub invariant-loop-at : goal.invariant-loop-at
invariant-loop-at l = All IsCoord l.coords × All (λ coord. IsSome coord.z) l.coords
