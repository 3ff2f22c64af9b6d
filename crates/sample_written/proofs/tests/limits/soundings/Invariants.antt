use Rattle.std.proofs.Common.{All, IsSome}
use Rattle.chart_model.specs.Record.{IsCoord}
use Rattle.sample_written.proofs.tests.limits.soundings.Given as goal

abbrev pub invariant-loop : goal.invariant-loop
invariant-loop l = All IsCoord l.coords × All (λ coord. IsSome coord.z) l.coords
