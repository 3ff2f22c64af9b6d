use Rattle.std.proofs.Common.{sym, subst}
use Rattle.std.specs.List.Sorted.{IsStrictlySortedBy}
use Rattle.chart_model.specs.Names.{name_cmp}
use Rattle.chart_difference.proofs.Names.{sorted-once, same-once}
use Rattle.chart_difference.proofs.difference.in_order_once.Goals as goal

pub returns-clause-rising : goal.returns-clause-rising
returns-clause-rising c =
    subst (IsStrictlySortedBy name_cmp) (sym c.from_vec.ensures)
    (sorted-once c.sort_unstable.new.self.items c.dedup.new.self.items c.sort_unstable.ensures.sorted
    c.dedup.ensures.filtered)

pub returns-clause-same : goal.returns-clause-same
returns-clause-same c = λ name.
    rw c.from_vec.ensures
    (same-once c.args.names.items c.sort_unstable.new.self.items c.dedup.new.self.items
    c.sort_unstable.ensures.permutation c.dedup.ensures.filtered name)
