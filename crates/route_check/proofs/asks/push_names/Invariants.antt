use Rattle.std.proofs.Common.{◌≡◌, ◌++◌, map, drop}
use Rattle.route_check.specs.Ask.{ask_for}
use Rattle.route_check.proofs.asks.push_names.Given as goal

abbrev pub invariant-loop-name : goal.invariant-loop-name
invariant-loop-name l =
    l.asks.items ++ map (ask_for l.before) (drop l.name-index l.names)
    ≡ l.initial.asks.items ++ map (ask_for l.before) l.names
