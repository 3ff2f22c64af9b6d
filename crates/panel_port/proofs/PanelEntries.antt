-- Entries in the rising order of their keys, found and put.
use Rattle.std.proofs.Common.{◌≡◌, ℕ, ◌-◌, ◌<◌, ◌≤◌, T, List, [], ◌∷◌, length, map, slice_index_or, slice_set, Some, None, arith, refl, sym, ap, subst, ◌∙◌}
use Rattle.std.specs.declared.cmp.Ordering.{Ordering}
use Rattle.std.specs.declared.cmp.Ordering.TheVariants.{Less, Equal, Greater}
use Rattle.std.specs.Ordering.{ordering_index}
use Rattle.std.specs.List.{HoldsAt, insert}
use Rattle.std.specs.List.Sorted.{IsNonDecreasingBy, IsPartitionPoint}
use Rattle.std.specs.FinMap as finite
use Rattle.std.specs.FinMap.{is_sorted}
use Rattle.chart_model.specs.declared.drawing.Block.{Block}
use Rattle.chart_model.specs.declared.drawing.PanelKey.{PanelKey}
use Rattle.chart_model.proofs.Blocks as block
use Rattle.chart_model.proofs.Trees.{entries-empty}
use Rattle.panel_port.specs.Panel.{Scene}
use Rattle.panel_port.specs.PanelKey.{panel_key_cmp}
use Rattle.panel_port.proofs.PanelKeys.{panel_key_cmp-total, panel_key_cmp-IsAntisymmetric}

abbrev Entries : Type 0
Entries = List (PanelKey × Block)

abbrev pub IsRising : List (PanelKey × Block) → Type 0
IsRising es = T (is_sorted panel_key_cmp es)

abbrev pub scene_of_entries : List (PanelKey × Block) → Scene
scene_of_entries es = finite.from_sorted es

pub none-put : scene_of_entries [] ≡ finite.empty
none-put =
    finite.same_entries_map _ _
    (finite.entries-from_sorted panel_key_cmp [] tt ∙ sym (entries-empty panel_key_cmp Block))

own : (es : Entries) → map (λ e. (e.0, e.1)) es ≡ es
own [] = refl
own (e ∷ es) = ap (λ (l : Entries). e ∷ l) (own es)

in-block : (es : Entries) → IsRising es → IsRising (map (λ e. (e.0, e.1)) es)
in-block es rising = subst IsRising (sym (own es)) rising

pub searchable : (es : List (PanelKey × Block)) (key : PanelKey) → IsRising es
    → IsNonDecreasingBy (λ e. ordering_index (panel_key_cmp e.0 key)) es
searchable es key rising = block.searchable panel_key_cmp-total (λ e. e.0) (λ e. e.1) es key (in-block es rising)

lowest : (o : Ordering) → ordering_index o ≤ 0 → o ≡ Less
lowest Less h = refl
lowest Equal h = absurd (omega (arith, h))
lowest Greater h = absurd (omega (arith, h))

-- a key behind the last one is behind them all
pub all-below : (es : List (PanelKey × Block)) (key : PanelKey) → IsRising es → 0 < length es
    → HoldsAt (λ e. panel_key_cmp e.0 key ≡ Less) es (length es - 1)
    → IsPartitionPoint (λ e. panel_key_cmp e.0 key ≡ Less) (λ e. panel_key_cmp e.0 key ≡ Greater) es (length es)
all-below es key rising some last = (
  λ k d low high.
      lowest _
      (subst (λ (o : Ordering). ordering_index (panel_key_cmp (slice_index_or es k d).0 key) ≤ ordering_index o) (last d)
      (searchable es key rising k (length es - 1) d (omega arith) (omega arith))),
  λ k d low high. absurd (omega arith),
)

module _ (es : List (PanelKey × Block)) (key : PanelKey) (rising : IsRising es) where
  pub entry-present : (i : ℕ) (d : PanelKey × Block) → i < length es → HoldsAt (λ e. panel_key_cmp e.0 key ≡ Equal) es i
      → finite.get (scene_of_entries es) key ≡ Some (slice_index_or es i d).1
  entry-present i d fits at =
      ap (λ l. finite.get (scene_of_entries l) key) (sym (own es))
      ∙ block.value-present panel_key_cmp-total (λ e. e.0) (λ e. e.1) panel_key_cmp-IsAntisymmetric es key (in-block es rising)
      i d fits at

  pub entry-absent : (i : ℕ) → i ≤ length es
      → IsPartitionPoint (λ e. panel_key_cmp e.0 key ≡ Less) (λ e. panel_key_cmp e.0 key ≡ Greater) es i
      → finite.get (scene_of_entries es) key ≡ None
  entry-absent i fits parted =
      ap (λ l. finite.get (scene_of_entries l) key) (sym (own es))
      ∙ block.value-absent panel_key_cmp-total (λ e. e.0) (λ e. e.1) panel_key_cmp-IsAntisymmetric es key (in-block es rising)
      i fits parted

  abbrev pub IsPut : List (PanelKey × Block) → Block → Type 0
  IsPut new block = (scene_of_entries new ≡ finite.insert (scene_of_entries es) key block) × IsRising new

  out-of-block : (new : Entries) (b : Block)
      → (scene_of_entries (map (λ e. (e.0, e.1)) new) ≡ finite.insert (scene_of_entries (map (λ e. (e.0, e.1)) es)) key b) × IsRising (map (λ e. (e.0, e.1)) new)
      → IsPut new b
  out-of-block new b h = (
    ap scene_of_entries (sym (own new)) ∙ h.0 ∙ ap (λ l. finite.insert (scene_of_entries l) key b) (own es),
    subst IsRising (own new) h.1,
  )

  pub entry-set : (b : Block) (i : ℕ) → i < length es → HoldsAt (λ e. panel_key_cmp e.0 key ≡ Equal) es i
      → IsPut (slice_set es i (key, b)) b
  entry-set b i fits at =
      out-of-block _ b
      (block.put-present panel_key_cmp-total (λ e. e.0) (λ e. e.1) panel_key_cmp-IsAntisymmetric es key (in-block es rising)
      i (key, b) refl fits at)

  pub entry-insert : (b : Block) (i : ℕ) → i ≤ length es
      → IsPartitionPoint (λ e. panel_key_cmp e.0 key ≡ Less) (λ e. panel_key_cmp e.0 key ≡ Greater) es i
      → IsPut (insert es i (key, b)) b
  entry-insert b i fits parted =
      out-of-block _ b
      (block.put-absent panel_key_cmp-total (λ e. e.0) (λ e. e.1) panel_key_cmp-IsAntisymmetric es key (in-block es rising)
      i (key, b) refl fits parted)
