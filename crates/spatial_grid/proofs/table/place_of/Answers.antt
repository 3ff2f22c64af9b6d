use Rattle.std.proofs.Common.{◌≡◌, ℕ, List, Result, Ok, Err, IfOk, IfErr, rules}
use Rattle.std.specs.declared.cmp.Ordering.TheVariants.{Less, Equal, Greater}
use Rattle.std.specs.List.{HoldsAt}
use Rattle.std.specs.List.Sorted.{IsBinarySearchResult, IsPartitionPoint}
use Rattle.std.proofs.lemmas.List.Sorted.{answers_always}
use Rattle.chart_model.specs.declared.name.Name.{Name}
use Rattle.chart_model.specs.Names.{name_cmp}
use Rattle.chart_model.proofs.PageBlocks.{IsRising, searchable}
use Rattle.spatial_grid.proofs.table.place_of.Goals as goal

found : {X : Type 0} (es : List (Name × X)) (name : Name) (r : Result ℕ ℕ) → IsBinarySearchResult (λ e. name_cmp e.0 name) es r → IfOk r (HoldsAt (λ e. name_cmp e.0 name ≡ Equal) es)
found es name (Ok i) at = at
found es name (Err i) at = tt

parted : {X : Type 0} (es : List (Name × X)) (name : Name) (r : Result ℕ ℕ) → IsRising es → IsBinarySearchResult (λ e. name_cmp e.0 name) es r
    → IfErr r (IsPartitionPoint (λ e. name_cmp e.0 name ≡ Less) (λ e. name_cmp e.0 name ≡ Greater) es)
parted es name (Ok i) rising at = tt
parted es name (Err i) rising at = at (searchable es name rising)

pub returns-clause-found : goal.returns-clause-found
returns-clause-found g c =
    found c.args.entries.now c.args.name _
    (c.binary_search_by_key.ensures.position (λ e. e.0) (answers_always _ _ _ (λ f a r h called. search rules)))

pub returns-clause-parted : goal.returns-clause-parted
returns-clause-parted g c =
    parted c.args.entries.now c.args.name _ c.requires
    (c.binary_search_by_key.ensures.position (λ e. e.0) (answers_always _ _ _ (λ f a r h called. search rules)))
