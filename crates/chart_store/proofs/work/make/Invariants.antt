-- so many of the changes are made, and counted
use Rattle.std.proofs.Common.{◌≡◌, ◌+◌}
use Rattle.update_sequence.specs.Draft.{Advances}
use Rattle.chart_store.proofs.work.make.Given as goal

abbrev pub invariant-loop : goal.invariant-loop
invariant-loop l = record {
  advances : Advances l.fn.draft l.draft l.counter;
  counted : l.done ≡ l.fn.done + l.counter;
}
