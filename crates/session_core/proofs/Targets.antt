-- What panels are to show: the blocks of all charts.
use Rattle.std.proofs.Common.{◌≡◌, Bool, true, false, cond, List, [], ◌∷◌, ◌++◌, T, ℕ, Option, Some, None, refl, sym, ◌∙◌, ap, subst, append-nil, append_assoc}
use Rattle.std.specs.Prelude.{option_and_then, ◌&&◌}
use Rattle.std.specs.Cmp.{IsTotalOrder, tied_itself}
use Rattle.std.specs.FinMap as finite
use Rattle.std.specs.FinMap.{find, is_sorted}
use Rattle.std.specs.FinMap.Entries.{below_all}
use Rattle.std.specs.List.{flat_map}
use Rattle.std.specs.Ordering.{eq_by_cmp, is_eq, is_lt, ordering_reverse, ordering_then}
use Rattle.std.specs.declared.cmp.Ordering.{Ordering}
use Rattle.std.specs.declared.cmp.Ordering.TheVariants.{Less, Equal, Greater}
use Rattle.chart_model.specs.Cell.{CellValue}
use Rattle.chart_model.specs.Keys.{key_cmp}
use Rattle.chart_model.specs.Names.{name_cmp}
use Rattle.chart_model.specs.declared.cell.Feature.{Feature}
use Rattle.chart_model.specs.declared.drawing.Block.{Block}
use Rattle.chart_model.specs.declared.drawing.PanelKey.{PanelKey}
use Rattle.chart_model.specs.declared.name.Name.{Name}
use Rattle.chart_model.specs.declared.settings.Settings.{Settings}
use Rattle.chart_model.specs.declared.state.Holding.{Holding}
use Rattle.chart_model.proofs.Keys.{key_cmp-total}
use Rattle.chart_model.proofs.Maps.{tied}
use Rattle.chart_model.proofs.Names.{name_cmp-total}
use Rattle.chart_model.proofs.SortedEntries.{first, second, less}
use Rattle.chart_store.specs.Loaded.{HoldingsByKey}
use Rattle.draw_list.specs.Block.{block_at, block_in}
use Rattle.draw_list.specs.Blocks.{named_blocks_in, named_of, named_with}
use Rattle.draw_list.specs.declared.blocks.NamedBlock.{NamedBlock}
use Rattle.panel_port.specs.PanelKey.{panel_key_cmp}
use Rattle.panel_port.specs.Panel.{Scene as Blocks}
use Rattle.panel_port.proofs.PanelKeys.{panel_key_cmp-IsAntisymmetric, panel_key_cmp-total}
use Rattle.lookup_table.specs.declared.line.TableLine.{TableLine}
use Rattle.session_core.specs.Held.{chart_of}
use Rattle.session_core.specs.Model.{Portrayal, shown_by}
use Rattle.session_core.specs.Panels.{blocks_under, target_of, under_key, with_all}

-- ---- entries

module _ {K X : Type 0} {R : K → K → Ordering} (total : IsTotalOrder R) where
  -- a key that ties with one below all others isn't among them
  tied-none : (q k : K) (es : List (K × X)) → eq_by_cmp R q k ≡ true → T (below_all R k es) → find R q es ≡ None
  tied-none q k [] tie h = refl
  tied-none q k (e ∷ es) tie h =
      ap (λ (r : Ordering). cond (is_eq r) (Some e.1) (find R q es)) (total.congr q k e.0 (tied (R q k) tie)
      ∙ less _ (first _ _ h))
      ∙ tied-none q k es tie (second _ _ h)

-- the first of two, where it is there
abbrev either : {X : Type 0} → Option X → Option X → Option X
either (Some x) other = Some x
either None other = other

either-none : {X : Type 0} (o : Option X) → either o None ≡ o
either-none (Some x) = refl
either-none None = refl

find-both : {K X : Type 0} (R : K → K → Ordering) (q : K) (es fs : List (K × X))
    → find R q (es ++ fs) ≡ either (find R q es) (find R q fs)
find-both R q [] fs = refl
find-both R q (e ∷ es) fs =
    elim (eq_by_cmp R q e.0) as (λ b. cond b (Some e.1) (find R q (es ++ fs)) ≡ either (cond b (Some e.1) (find R q es))
    (find R q fs)) [
      | true ↦ refl
      | false ↦ find-both R q es fs
    ]

-- ---- the keys of panels

abbrev key_with : List ℕ → Name → PanelKey
key_with key name = record { key = key; name = name }

then-tie : (r s : Ordering) → is_eq (ordering_then r s) ≡ cond (is_eq r) (is_eq s) false
then-tie Less s = refl
then-tie Equal s = refl
then-tie Greater s = refl

panel-tie : (key other : List ℕ) (name name' : Name)
    → eq_by_cmp panel_key_cmp (key_with key name) (key_with other name') ≡ cond (eq_by_cmp key_cmp key other)
    (eq_by_cmp name_cmp name name') false
panel-tie key other name name' = then-tie (key_cmp key other) (name_cmp name name')

-- ---- the blocks of one chart

module _ (portrayal : Portrayal) (key other : List ℕ) (name : Name) where
  module _ (chart : CellValue) where
    abbrev block-of : Feature → Option Block
    block-of feature = block_in chart portrayal.table portrayal.settings feature

    abbrev named-in : List (Name × Feature) → List NamedBlock
    named-in es = flat_map (named_of chart portrayal.table portrayal.settings) es

    abbrev found-in : List (Name × Feature) → Option Block
    found-in es = find panel_key_cmp (key_with key name) (under_key other (named-in es))

    own-blocks : eq_by_cmp key_cmp key other ≡ true → (es : List (Name × Feature)) → T (is_sorted name_cmp es)
        → found-in es ≡ option_and_then block-of (find name_cmp name es)
    own-blocks tie [] sorted = refl
    own-blocks tie (e ∷ es) sorted =
        step (block-of e.1) refl (eq_by_cmp name_cmp name e.0) refl (own-blocks tie es (second _ _ sorted))
      where
        step : (o : Option Block) → block-of e.1 ≡ o → (b : Bool) → eq_by_cmp name_cmp name e.0 ≡ b
            → found-in es ≡ option_and_then block-of (find name_cmp name es)
            → find panel_key_cmp (key_with key name) (under_key other (named_with e.0 o ++ named-in es))
            ≡ option_and_then block-of (cond b (Some e.1) (find name_cmp name es))
        step None is true t rest =
            rest ∙ ap (option_and_then block-of) (tied-none name_cmp-total name e.0 es t (first _ _ sorted)) ∙ sym is
        step None is false t rest = rest
        step (Some block) is true t rest =
            ap (λ (b : Bool). cond b (Some block) (found-in es))
            (panel-tie key other name e.0 ∙ ap (λ (b : Bool). cond b (eq_by_cmp name_cmp name e.0) false) tie ∙ t)
            ∙ sym is
        step (Some block) is false t rest =
            ap (λ (b : Bool). cond b (Some block) (found-in es))
            (panel-tie key other name e.0 ∙ ap (λ (b : Bool). cond b (eq_by_cmp name_cmp name e.0) false) tie ∙ t)
            ∙ rest

    other-blocks : eq_by_cmp key_cmp key other ≡ false → (es : List (Name × Feature)) → found-in es ≡ None
    other-blocks apart [] = refl
    other-blocks apart (e ∷ es) = step (block-of e.1) (other-blocks apart es)
      where
        step : (o : Option Block) → found-in es ≡ None
            → find panel_key_cmp (key_with key name) (under_key other (named_with e.0 o ++ named-in es)) ≡ None
        step None rest = rest
        step (Some block) rest =
            ap (λ (b : Bool). cond b (Some block) (found-in es))
            (panel-tie key other name e.0 ∙ ap (λ (b : Bool). cond b (eq_by_cmp name_cmp name e.0) false) apart) ∙ rest

  -- the block of the name, in a chart that may be there
  abbrev named : Option CellValue → Option Block
  named chart =
      option_and_then (λ (held : CellValue). block_at (shown_by portrayal held) portrayal.table portrayal.settings name)
      chart

  abbrev found : List (PanelKey × Block) → Option Block
  found es = find panel_key_cmp (key_with key name) es

  own-chart : eq_by_cmp key_cmp key other ≡ true → (chart : Option CellValue)
      → found (blocks_under portrayal other chart) ≡ named chart
  own-chart tie None = refl
  own-chart tie (Some chart) =
      let shown = shown_by portrayal chart in
      own-blocks shown tie (finite.entries shown.features) (finite.entries_sorted shown.features)
      ∙ ap (option_and_then (block_in shown portrayal.table portrayal.settings))
      (sym (finite.get-entries shown.features name))

  other-chart : eq_by_cmp key_cmp key other ≡ false → (chart : Option CellValue)
      → found (blocks_under portrayal other chart) ≡ None
  other-chart apart None = refl
  other-chart apart (Some chart) =
      let shown = shown_by portrayal chart in other-blocks shown apart (finite.entries shown.features)

-- ---- those of all charts

module _ (portrayal : Portrayal) (key : List ℕ) (name : Name) where
  abbrev blocks-of : List ℕ × Holding → List (PanelKey × Block)
  blocks-of entry = blocks_under portrayal entry.0 entry.1.chart

  abbrev by-holding : Option Holding → Option Block
  by-holding held = option_and_then (λ (here : Holding). named portrayal key key name here.chart) held

  all-blocks : (es : List (List ℕ × Holding)) → T (is_sorted key_cmp es)
      → found portrayal key key name (flat_map blocks-of es) ≡ by-holding (find key_cmp key es)
  all-blocks [] sorted = refl
  all-blocks (e ∷ es) sorted =
      find-both panel_key_cmp (key_with key name) (blocks-of e) (flat_map blocks-of es)
      ∙ step (eq_by_cmp key_cmp key e.0) refl (all-blocks es (second _ _ sorted))
    where
      step : (b : Bool) → eq_by_cmp key_cmp key e.0 ≡ b
          → found portrayal key key name (flat_map blocks-of es) ≡ by-holding (find key_cmp key es)
          → either (found portrayal key key name (blocks-of e)) (found portrayal key key name (flat_map blocks-of es))
          ≡ by-holding (cond b (Some e.1) (find key_cmp key es))
      step true t rest =
          (λ i. either (own-chart portrayal key e.0 name t e.1.chart i)
          ((rest ∙ ap by-holding (tied-none key_cmp-total key e.0 es t (first _ _ sorted))) i))
          ∙ either-none (named portrayal key key name e.1.chart)
      step false t rest =
          ap (λ (o : Option Block). either o (found portrayal key key name (flat_map blocks-of es)))
          (other-chart portrayal key e.0 name t e.1.chart) ∙ rest

  by-chart : (held : Option Holding)
      → by-holding held ≡ named portrayal key key name (option_and_then (λ (here : Holding). here.chart) held)
  by-chart None = refl
  by-chart (Some here) = refl

  pub target-is : (cells : HoldingsByKey) → finite.get (target_of portrayal cells) (key_with key name)
      ≡ option_and_then (λ (chart : CellValue).
      block_at (shown_by portrayal chart) portrayal.table portrayal.settings name)
      (chart_of cells key)
  unfolding target_of
  target-is cells =
      finite.get-from_entries panel_key_cmp-total (flat_map blocks-of (finite.entries cells)) (key_with key name)
      ∙ all-blocks (finite.entries cells) (finite.entries_sorted cells)
      ∙ ap by-holding (sym (finite.get-entries cells key)) ∙ by-chart (finite.get cells key)

-- ---- blocks that are put in one after the other

pub with-append : (blocks : Blocks) (es fs : List (PanelKey × Block))
    → with_all blocks (es ++ fs) ≡ with_all (with_all blocks es) fs
with-append blocks [] fs = refl
with-append blocks (e ∷ es) fs = with-append (finite.insert blocks e.0 e.1) es fs

-- a key isn't among those before it
module _ {K X : Type 0} {R : K → K → Ordering} (total : IsTotalOrder R) where
  below-next : (x : K) (seen rest : List (K × X)) (next : K × X) → T (below_all R x (seen ++ next ∷ rest))
      → R x next.0 ≡ Less
  below-next x [] rest next h = less _ (first _ _ h)
  below-next x (e ∷ seen) rest next h = below-next x seen rest next (second _ _ h)

  not-seen : (seen rest : List (K × X)) (next : K × X) → T (is_sorted R (seen ++ next ∷ rest))
      → find R next.0 seen ≡ None
  not-seen [] rest next h = refl
  not-seen (e ∷ seen) rest next h =
      ap (λ (r : Ordering). cond (is_eq r) (Some e.1) (find R next.0 seen))
      (total.antisymm next.0 e.0 ∙ ap ordering_reverse (below-next e.0 seen rest next (first _ _ h)))
      ∙ not-seen seen rest next (second _ _ h)

  -- an entry is found under its key
  pub found-there : (seen rest : List (K × X)) (key : K) (x : X) → T (is_sorted R (seen ++ (key, x) ∷ rest))
      → find R key (seen ++ (key, x) ∷ rest) ≡ Some x
  found-there seen rest key x h =
      find-both R key seen ((key, x) ∷ rest)
      ∙ ap (λ (o : Option X). either o (find R key ((key, x) ∷ rest))) (not-seen seen rest (key, x) h)
      ∙ ap (λ (r : Ordering). cond (is_eq r) (Some x) (find R key rest)) (tied_itself total key)

-- in order they make the map of all
all-put : (seen es : List (PanelKey × Block)) → T (is_sorted panel_key_cmp (seen ++ es))
    → with_all (finite.from_entries seen) es ≡ finite.from_entries (seen ++ es)
all-put seen [] sorted = ap finite.from_entries (sym (append-nil seen))
all-put seen (e ∷ es) sorted =
    ap (λ (m : Blocks). with_all m es)
    (sym (finite.from_entries_push panel_key_cmp-total panel_key_cmp-IsAntisymmetric seen e.0 e.1
    (not-seen panel_key_cmp-total seen es e sorted)))
    ∙ all-put (seen ++ e ∷ []) es
    (subst (λ (l : List (PanelKey × Block)). T (is_sorted panel_key_cmp l)) (sym (append_assoc seen (e ∷ []) es))
    sorted)
    ∙ ap finite.from_entries (append_assoc seen (e ∷ []) es)

-- ---- the blocks of all charts are in the order of their keys

both : (a b : Bool) → T a → T b → T (a && b)
both true b p q = q
both false b p q = p

module _ {K X : Type 0} (R : K → K → Ordering) where
  below-both : (x : K) (es fs : List (K × X)) → T (below_all R x es) → T (below_all R x fs)
      → T (below_all R x (es ++ fs))
  below-both x [] fs p q = q
  below-both x (e ∷ es) fs p q = both _ _ (first _ _ p) (below-both x es fs (second _ _ p) q)

less-is : (r : Ordering) → r ≡ Less → T (is_lt r)
less-is r e = subst (λ (s : Ordering). T (is_lt s)) (sym e) tt

module _ (key : List ℕ) (chart : CellValue) (table : List TableLine) (settings : Settings) where
  abbrev entries-of : List (Name × Feature) → List (PanelKey × Block)
  entries-of es = under_key key (flat_map (named_of chart table settings) es)

  abbrev entries-with : Name → Option Block → List (Name × Feature) → List (PanelKey × Block)
  entries-with name o es = under_key key (named_with name o ++ flat_map (named_of chart table settings) es)

  key-itself : key_cmp key key ≡ Equal
  key-itself = tied_itself key_cmp-total key

  below-named : (name : Name) (es : List (Name × Feature)) → T (below_all name_cmp name es)
      → T (below_all panel_key_cmp (key_with key name) (entries-of es))
  below-named name [] h = tt
  below-named name (e ∷ es) h = by (block_in chart table settings e.1) (below-named name es (second _ _ h))
    where
      by : (o : Option Block) → T (below_all panel_key_cmp (key_with key name) (entries-of es))
          → T (below_all panel_key_cmp (key_with key name) (entries-with e.0 o es))
      by None rest = rest
      by (Some block) rest =
          both _ _ (less-is _ (ap (λ (r : Ordering). ordering_then r (name_cmp name e.0)) key-itself
          ∙ less _ (first _ _ h))) rest

  sorted-named : (es : List (Name × Feature)) → T (is_sorted name_cmp es) → T (is_sorted panel_key_cmp (entries-of es))
  sorted-named [] h = tt
  sorted-named (e ∷ es) h = by (block_in chart table settings e.1) (sorted-named es (second _ _ h))
    where
      by : (o : Option Block) → T (is_sorted panel_key_cmp (entries-of es))
          → T (is_sorted panel_key_cmp (entries-with e.0 o es))
      by None rest = rest
      by (Some block) rest = both _ _ (below-named e.0 es (first _ _ h)) rest

module _ (portrayal : Portrayal) where
  abbrev pub chart-blocks : List ℕ × Holding → List (PanelKey × Block)
  chart-blocks entry = blocks_under portrayal entry.0 entry.1.chart

  -- a lesser key of a cell is below all blocks of another chart
  below-under : (key other : List ℕ) (name : Name) → key_cmp key other ≡ Less → (named : List NamedBlock)
      → T (below_all panel_key_cmp (key_with key name) (under_key other named))
  below-under key other name lesser [] = tt
  below-under key other name lesser (n ∷ named) =
      both _ _ (less-is _ (ap (λ (r : Ordering). ordering_then r (name_cmp name n.name)) lesser))
      (below-under key other name lesser named)

  below-chart : (key other : List ℕ) (name : Name) → key_cmp key other ≡ Less → (chart : Option CellValue)
      → T (below_all panel_key_cmp (key_with key name) (blocks_under portrayal other chart))
  below-chart key other name lesser None = tt
  below-chart key other name lesser (Some chart) =
      below-under key other name lesser
      (named_blocks_in (shown_by portrayal chart) portrayal.table portrayal.settings)

  below-charts : (key : List ℕ) (name : Name) (es : List (List ℕ × Holding)) → T (below_all key_cmp key es)
      → T (below_all panel_key_cmp (key_with key name) (flat_map chart-blocks es))
  below-charts key name [] h = tt
  below-charts key name (e ∷ es) h =
      below-both panel_key_cmp (key_with key name) (chart-blocks e) (flat_map chart-blocks es)
      (below-chart key e.0 name (less _ (first _ _ h)) e.1.chart) (below-charts key name es (second _ _ h))

  -- sorted blocks of one cell before sorted blocks that are all above its key
  sorted-before : (key : List ℕ) (named : List NamedBlock) (rest : List (PanelKey × Block))
      → T (is_sorted panel_key_cmp (under_key key named))
      → ((name : Name) → T (below_all panel_key_cmp (key_with key name) rest)) → T (is_sorted panel_key_cmp rest)
      → T (is_sorted panel_key_cmp (under_key key named ++ rest))
  sorted-before key [] rest own above h = h
  sorted-before key (n ∷ named) rest own above h =
      both _ _ (below-both panel_key_cmp (key_with key n.name) (under_key key named) rest (first _ _ own)
      (above n.name))
      (sorted-before key named rest (second _ _ own) above h)

  sorted-chart : (key : List ℕ) (chart : Option CellValue) (rest : List (PanelKey × Block))
      → ((name : Name) → T (below_all panel_key_cmp (key_with key name) rest)) → T (is_sorted panel_key_cmp rest)
      → T (is_sorted panel_key_cmp (blocks_under portrayal key chart ++ rest))
  sorted-chart key None rest above h = h
  sorted-chart key (Some chart) rest above h =
      let shown = shown_by portrayal chart in
      sorted-before key (named_blocks_in shown portrayal.table portrayal.settings) rest
      (sorted-named key shown portrayal.table portrayal.settings (finite.entries shown.features)
      (finite.entries_sorted shown.features)) above h

  sorted-charts : (es : List (List ℕ × Holding)) → T (is_sorted key_cmp es)
      → T (is_sorted panel_key_cmp (flat_map chart-blocks es))
  sorted-charts [] h = tt
  sorted-charts (e ∷ es) h =
      sorted-chart e.0 e.1.chart (flat_map chart-blocks es) (λ name. below-charts e.0 name es (first _ _ h))
      (sorted-charts es (second _ _ h))

  -- so all of them are put in
  pub target-put : (cells : HoldingsByKey)
      → with_all finite.empty (flat_map chart-blocks (finite.entries cells)) ≡ target_of portrayal cells
  unfolding target_of
  target-put cells =
      all-put [] (flat_map chart-blocks (finite.entries cells))
      (sorted-charts (finite.entries cells) (finite.entries_sorted cells))

-- ---- a walk over the cells

-- what is left of the entries
pub record Rest (cells : HoldingsByKey) (left : List (List ℕ × Holding)) : Type 0 where
  pub seen : List (List ℕ × Holding)
  pub parts : finite.entries cells ≡ seen ++ left

-- the next one is held
pub next-held : (cells : HoldingsByKey) (all left : List (List ℕ × Holding)) (key : List ℕ) (here : Holding)
    → Rest cells all
    → all ≡ (key, here) ∷ left → finite.get cells key ≡ Some here
next-held cells all left key here rest next =
    let parts : finite.entries cells ≡ rest.seen ++ (key, here) ∷ left = rest.parts
    ∙ ap (λ (l : List (List ℕ × Holding)). rest.seen ++ l) next in
    finite.get-entries cells key ∙ ap (find key_cmp key) parts
    ∙ found-there key_cmp-total rest.seen left key here
    (subst (λ (l : List (List ℕ × Holding)). T (is_sorted key_cmp l)) parts (finite.entries_sorted cells))

pub rest-goes : (cells : HoldingsByKey) (all left : List (List ℕ × Holding)) (entry : List ℕ × Holding) → Rest cells all
    → all ≡ entry ∷ left
    → Rest cells left
rest-goes cells all left entry rest next = record {
  seen = rest.seen ++ entry ∷ [];
  parts =
      rest.parts ∙ ap (λ (l : List (List ℕ × Holding)). rest.seen ++ l) next
      ∙ sym (append_assoc rest.seen (entry ∷ []) left);
}
