-- the rows so far with those of the asks that are left; and what is kept is of this chart
use Rattle.std.proofs.Common.{◌≡◌, ◌++◌, drop}
use Rattle.std.specs.List.{flat_map}
use Rattle.route_check.specs.Ask.{rows_asked}
use Rattle.route_check.specs.Found.{IsOf}
use Rattle.route_check.proofs.reports.push_asked.Given as goal

abbrev pub invariant-loop-ask : goal.invariant-loop-ask
invariant-loop-ask l = record {
  added : l.rows.items
      ++ flat_map (rows_asked l.from.settings.now l.from.key l.from.cell.now l.route) (drop l.ask-index l.asks)
      ≡ l.initial.rows.items ++ flat_map (rows_asked l.from.settings.now l.from.key l.from.cell.now l.route) l.asks;
  kept : IsOf l.from.settings.now l.from.key l.from.cell.now l.found;
}
