use Rattle.std.proofs.Common.{◌≡◌, ℕ, List, Result, Ok, Err, IfOk, IfErr, rules}
use Rattle.std.specs.declared.cmp.Ordering.TheVariants.{Less, Equal, Greater}
use Rattle.std.specs.List.{HoldsAt}
use Rattle.std.specs.List.Sorted.{IsBinarySearchResult, IsPartitionPoint}
use Rattle.std.proofs.lemmas.List.Sorted.{answers_always}
use Rattle.chart_model.specs.declared.drawing.Block.{Block}
use Rattle.chart_model.specs.declared.drawing.PanelKey.{PanelKey}
use Rattle.panel_port.specs.PanelKey.{panel_key_cmp}
use Rattle.panel_port.proofs.PanelEntries.{IsRising, searchable}
use Rattle.panel_port.proofs.block_map.place_of.Goals as goal

found : (es : List (PanelKey × Block)) (key : PanelKey) (r : Result ℕ ℕ) → IsBinarySearchResult (λ e. panel_key_cmp e.0 key) es r
    → IfOk r (HoldsAt (λ e. panel_key_cmp e.0 key ≡ Equal) es)
found es key (Ok i) at = at
found es key (Err i) at = tt

parted : (es : List (PanelKey × Block)) (key : PanelKey) (r : Result ℕ ℕ) → IsRising es
    → IsBinarySearchResult (λ e. panel_key_cmp e.0 key) es r
    → IfErr r (IsPartitionPoint (λ e. panel_key_cmp e.0 key ≡ Less) (λ e. panel_key_cmp e.0 key ≡ Greater) es)
parted es key (Ok i) rising at = tt
parted es key (Err i) rising at = at (searchable es key rising)

pub returns-clause-found : goal.returns-clause-found
returns-clause-found c =
    found c.args.entries.now c.args.key _
    (c.binary_search_by_key.ensures.position (λ e. e.0) (answers_always _ _ _ (λ f a r h called. search rules)))

pub returns-clause-parted : goal.returns-clause-parted
returns-clause-parted c =
    parted c.args.entries.now c.args.key _ c.requires
    (c.binary_search_by_key.ensures.position (λ e. e.0) (answers_always _ _ _ (λ f a r h called. search rules)))
