use Rattle.std.proofs.Common.{◌≡◌, ℕ, List, Result, Ok, Err, IfOk, IfErr, sym, ap, ◌∙◌, rules}
use Rattle.std.specs.declared.cmp.Ordering.TheVariants.{Less, Equal, Greater}
use Rattle.std.specs.List.{HoldsAt}
use Rattle.std.specs.List.Sorted.{IsBinarySearchResult, IsPartitionPoint}
use Rattle.std.proofs.lemmas.List.Sorted.{answers_always}
use Rattle.chart_model.specs.declared.name.Name.{Name}
use Rattle.chart_model.specs.Names.{name_cmp}
use Rattle.chart_model.proofs.PageBlocks.{IsRising, all-below, searchable}
use Rattle.topology_cache.specs.Users.{Names}
use Rattle.topology_cache.proofs.user_rows.place_of.Goals as goal

found : (rows : List (Name × Names)) (edge : Name) (r : Result ℕ ℕ) → IsBinarySearchResult (λ row. name_cmp row.0 edge) rows r
    → IfOk r (HoldsAt (λ row. name_cmp row.0 edge ≡ Equal) rows)
found rows edge (Ok i) at = at
found rows edge (Err i) at = tt

parted : (rows : List (Name × Names)) (edge : Name) (r : Result ℕ ℕ) → IsRising rows
    → IsBinarySearchResult (λ row. name_cmp row.0 edge) rows r
    → IfErr r (IsPartitionPoint (λ row. name_cmp row.0 edge ≡ Less) (λ row. name_cmp row.0 edge ≡ Greater) rows)
parted rows edge (Ok i) rising at = tt
parted rows edge (Err i) rising at = at (searchable rows edge rising)

pub returns-in-Less-clause-parted : goal.returns-in-Less-clause-parted
returns-in-Less-clause-parted c =
    let item = c.in-Some.ensures.item.3 in
    all-below c.args.rows.now c.args.edge c.requires item.0
    (λ d. ap (λ (row : Name × Names). name_cmp row.0 c.args.edge) (sym (item.1 d)) ∙ sym c.cmp.ensures ∙ c.in-Less.is)

pub returns-in-Greater-clause-found : goal.returns-in-Greater-clause-found
returns-in-Greater-clause-found c =
    found c.args.rows.now c.args.edge _
    (c.binary_search_by_key.ensures.position (λ (row : Name × Names). row.0)
    (answers_always _ _ _ (λ f a r h called. search rules)))

pub returns-in-Greater-clause-parted : goal.returns-in-Greater-clause-parted
returns-in-Greater-clause-parted c =
    parted c.args.rows.now c.args.edge _ c.requires
    (c.binary_search_by_key.ensures.position (λ (row : Name × Names). row.0)
    (answers_always _ _ _ (λ f a r h called. search rules)))
