use Rattle.std.proofs.Common.{◌≡◌, ◌++◌}
use Rattle.std.specs.List.{AllByRecursion, flat_map}
use Rattle.std.specs.FinMap as map
use Rattle.chart_pages.proofs.records.put_each.Given as goal

abbrev pub invariant-loop-name : goal.invariant-loop-name
invariant-loop-name g l = record {
  bytes : l.out ++ flat_map g.R.Record.spelling l.name-iterator ≡ l.initial.out ++ flat_map g.R.Record.spelling (map.entries l.records);
  in_range : AllByRecursion g.R.Record.is_in_range l.name-iterator → AllByRecursion g.R.Record.is_in_range (map.entries l.records);
}
