use Rattle.route_check.proofs.Asking.{AreBefore}
use Rattle.route_check.proofs.asks.all_asks.Given as goal

abbrev pub invariant-loop-before : goal.invariant-loop-before
invariant-loop-before l = AreBefore l.grid l.route l.before l.asks.items
