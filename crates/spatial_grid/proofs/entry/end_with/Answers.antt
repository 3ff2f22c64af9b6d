use Rattle.std.proofs.Common.{rules}
use Rattle.std.specs.Prelude.{nat_le}
use Rattle.std.proofs.lemmas.List.Sorted.{IsPartitionPoint-from_clause, IsPartitionedBy-leb}
use Rattle.spatial_grid.specs.declared.entry.Entry.{Entry}
use Rattle.spatial_grid.specs.Buckets.{bucket_of}
use Rattle.spatial_grid.proofs.entry.end_with.Goals as goal

pub returns-clause-parted : goal.returns-clause-parted
returns-clause-parted c =
    IsPartitionPoint-from_clause (λ (entry : Entry). nat_le entry.bucket c.args.bucket) c.args.entries.now c.partition_point.result c.partition_point.ensures.partitioned
    (IsPartitionedBy-leb bucket_of c.args.entries.now c.args.bucket c.requires) (λ a r f called. (search rules, search rules))
