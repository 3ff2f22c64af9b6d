use Rattle.std.proofs.lemmas.List.Filters.{dedup_is}
use Rattle.spatial_grid.proofs.Once.{same, once_same, once_ordered, once_no_more}
use Rattle.spatial_grid.proofs.candidates.keep_each_once.Goals as goal

pub returns-clause-same : goal.returns-clause-same
returns-clause-same c =
    once_same c.args.names.now.items c.sort_unstable.new.self.items c.dedup.new.self.items c.sort_unstable.ensures.permutation (dedup_is same _ _ c.dedup.ensures.filtered)

pub returns-clause-ordered : goal.returns-clause-ordered
returns-clause-ordered c =
    once_ordered c.sort_unstable.new.self.items c.dedup.new.self.items c.sort_unstable.ensures.sorted (dedup_is same _ _ c.dedup.ensures.filtered)

pub returns-clause-no_more : goal.returns-clause-no_more
returns-clause-no_more c =
    once_no_more c.args.names.now.items c.sort_unstable.new.self.items c.dedup.new.self.items c.sort_unstable.ensures.permutation (dedup_is same _ _ c.dedup.ensures.filtered)
