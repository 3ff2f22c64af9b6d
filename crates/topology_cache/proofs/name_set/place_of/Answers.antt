use Rattle.std.proofs.Common.{◌≡◌, ℕ, List, Result, Ok, Err, IfErr}
use Rattle.std.specs.declared.cmp.Ordering.TheVariants.{Less, Greater}
use Rattle.std.specs.List.Sorted.{IsBinarySearchResult, IsPartitionPoint}
use Rattle.chart_model.specs.declared.name.Name.{Name}
use Rattle.chart_model.specs.Names.{name_cmp}
use Rattle.topology_cache.specs.Sets.{AreRising}
use Rattle.topology_cache.proofs.NameSets.{searchable}
use Rattle.topology_cache.proofs.name_set.place_of.Goals as goal

parted : (names : List Name) (name : Name) (r : Result ℕ ℕ) → AreRising names
    → IsBinarySearchResult (λ other. name_cmp other name) names r
    → IfErr r (IsPartitionPoint (λ other. name_cmp other name ≡ Less) (λ other. name_cmp other name ≡ Greater) names)
parted names name (Ok i) rising at = tt
parted names name (Err i) rising at = at (searchable names name rising)

pub returns-clause-parted : goal.returns-clause-parted
returns-clause-parted c = parted c.args.names.now c.args.name _ c.requires c.binary_search.ensures.position
