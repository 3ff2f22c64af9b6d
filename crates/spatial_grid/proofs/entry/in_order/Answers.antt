use Rattle.std.proofs.Common.{rules}
use Rattle.std.proofs.lemmas.List.Sorted.{IsNonDecreasingBy-from_sort_by_key, Contains-permutation}
use Rattle.spatial_grid.specs.Buckets.{bucket_of}
use Rattle.spatial_grid.proofs.entry.in_order.Goals as goal

pub returns-clause-ordered : goal.returns-clause-ordered
returns-clause-ordered c =
    IsNonDecreasingBy-from_sort_by_key bucket_of c.sort_by_key.new.self.items c.in_ok-sort_by_key.ensures.sorted (λ a r f called. search rules)

pub returns-clause-kept : goal.returns-clause-kept
returns-clause-kept c = λ entry h.
    Contains-permutation c.args.entries.items c.sort_by_key.new.self.items entry c.sort_by_key.ensures.permutation h
