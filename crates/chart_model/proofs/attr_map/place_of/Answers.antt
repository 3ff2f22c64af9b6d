use Rattle.std.proofs.Common.{◌≡◌, ℕ, List, Result, Ok, Err, IfOk, IfErr, nat_cmp, rules}
use Rattle.std.specs.declared.cmp.Ordering.TheVariants.{Less, Equal, Greater}
use Rattle.std.specs.List.{HoldsAt}
use Rattle.std.specs.List.Sorted.{IsBinarySearchResult, IsPartitionPoint}
use Rattle.std.proofs.lemmas.List.Sorted.{answers_always}
use Rattle.chart_model.specs.Attrs.{AreRising}
use Rattle.chart_model.specs.declared.record.Attr.{Attr}
use Rattle.chart_model.proofs.AttrMaps.{searchable}
use Rattle.chart_model.proofs.attr_map.place_of.Goals as goal

found : (attrs : List Attr) (code : ℕ) (r : Result ℕ ℕ) → IsBinarySearchResult (λ attr. nat_cmp attr.code code) attrs r → IfOk r (HoldsAt (λ attr. nat_cmp attr.code code ≡ Equal) attrs)
found attrs code (Ok i) at = at
found attrs code (Err i) at = tt

parted : (attrs : List Attr) (code : ℕ) (r : Result ℕ ℕ) → AreRising attrs → IsBinarySearchResult (λ attr. nat_cmp attr.code code) attrs r
    → IfErr r (IsPartitionPoint (λ attr. nat_cmp attr.code code ≡ Less) (λ attr. nat_cmp attr.code code ≡ Greater) attrs)
parted attrs code (Ok i) rising at = tt
parted attrs code (Err i) rising at = at (searchable attrs code rising)

pub returns-clause-found : goal.returns-clause-found
returns-clause-found c =
    found c.args.attrs.now c.args.code _
    (c.binary_search_by_key.ensures.position (λ attr. attr.code) (answers_always _ _ _ (λ f a r g called. search rules)))

pub returns-clause-parted : goal.returns-clause-parted
returns-clause-parted c =
    parted c.args.attrs.now c.args.code _ c.requires
    (c.binary_search_by_key.ensures.position (λ attr. attr.code) (answers_always _ _ _ (λ f a r g called. search rules)))
