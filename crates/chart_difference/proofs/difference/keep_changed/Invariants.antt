use Rattle.std.proofs.Common.{◌≡◌, ◌++◌}
use Rattle.std.specs.Option.{option_copied}
use Rattle.std.specs.List.{filter}
use Rattle.std.specs.Vec.Iter.{into_iter_items}
use Rattle.chart_difference.specs.Same.{differ}
use Rattle.chart_difference.proofs.difference.keep_changed.Given as goal

abbrev pub invariant-loop-name : goal.invariant-loop-name
invariant-loop-name l =
    let test = differ (option_copied l.old) (option_copied l.new) in
    l.kept ++ filter test (into_iter_items l.name-iterator) ≡ filter test l.fn.names.items
