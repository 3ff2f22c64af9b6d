use Rattle.std.proofs.lemmas.List.Filters.{dedup_is}
use Rattle.std.proofs.lemmas.List.Sorted.{IsPermutation-trans}
use Rattle.route_check.proofs.Once.{same, once_same, once_ordered}
use Rattle.route_check.proofs.danger.each_once.Goals as goal

pub returns-clause-same : goal.returns-clause-same
returns-clause-same c =
    once_same c.args.rows.items c.sort.new.self.items c.dedup.new.self.items (IsPermutation-trans c.args.rows.items c.sort_unstable_by_key.new.self.items c.sort.new.self.items c.sort_unstable_by_key.ensures.permutation c.sort.ensures.permutation) (dedup_is same _ _ c.dedup.ensures.filtered)

pub returns-clause-ordered : goal.returns-clause-ordered
returns-clause-ordered c =
    once_ordered c.sort.new.self.items c.dedup.new.self.items c.in_ok-sort.ensures.sorted (dedup_is same _ _ c.dedup.ensures.filtered)
