-- The blocks of a cell are found by the names of their features.
use Rattle.std.proofs.Common.{◌≡◌, ◌↔◌, Bool, true, false, cond, List, [], ◌∷◌, Option, Some, None, refl, sym, ap, ◌∙◌, subst, arith}
use Rattle.std.specs.Prelude.{option_and_then}
use Rattle.std.specs.List.{All, flat_map}
use Rattle.std.specs.Ordering.{eq_by_cmp}
use Rattle.std.specs.FinMap as map
use Rattle.std.specs.FinMap.{find}
use Rattle.std.proofs.lemmas.List.Elements.{All-nil, All-cons, All-head, All-tail, All-append, All-contains, Contains-append_left, Contains-append_right}
use Rattle.chart_model.specs.Cell.{CellValue}
use Rattle.chart_model.specs.Names.{name_cmp}
use Rattle.chart_model.specs.declared.cell.Feature.{Feature}
use Rattle.chart_model.specs.declared.drawing.Block.{Block}
use Rattle.chart_model.specs.declared.name.Name.{Name}
use Rattle.chart_model.specs.declared.settings.Settings.{Settings}
use Rattle.chart_model.proofs.Maps.{tied}
use Rattle.chart_model.proofs.Names.{name_cmp-IsAntisymmetric}
use Rattle.lookup_table.specs.declared.line.TableLine.{TableLine}
use Rattle.draw_list.specs.declared.blocks.NamedBlock.{NamedBlock}
use Rattle.draw_list.specs.Block.{block_in, block_at}
use Rattle.draw_list.specs.Blocks.{named_with, named_of, named_blocks_in, HasBlock}
use Rattle.draw_list.proofs.Unique.{entries_there}

some_is : {A : Type 0} (x y : A) → ◌≡◌ {A = Option A} (Some x) (Some y) → x ≡ y
some_is x y e = cc

module _ (cell : CellValue) (table : List TableLine) (settings : Settings) where
  -- the block is what is drawn of the feature of its name
  abbrev IsNamed : NamedBlock → Type 0
  IsNamed named = block_at cell table settings named.name ≡ Some named.block

  abbrev AreThere : List (Name × Feature) → Type 0
  AreThere es = All (λ e. map.get cell.features e.0 ≡ Some e.1) es

  -- ---- from the list to the features

  named_each : (name : Name) (feature : Feature) → map.get cell.features name ≡ Some feature → (o : Option Block) → block_in cell table settings feature ≡ o
      → All IsNamed (named_with name o)
  named_each name feature there None e = All-nil IsNamed
  named_each name feature there (Some block) e =
      All-cons IsNamed (record { name = name; block = block }) [] (ap (option_and_then (block_in cell table settings)) there ∙ e) (All-nil IsNamed)

  all_named : (es : List (Name × Feature)) → AreThere es → All IsNamed (flat_map (named_of cell table settings) es)
  all_named [] h = All-nil IsNamed
  all_named (e ∷ es) h =
      All-append IsNamed (named_of cell table settings e) (flat_map (named_of cell table settings) es)
      (named_each e.0 e.1 (All-head (λ e. map.get cell.features e.0 ≡ Some e.1) e es h) (block_in cell table settings e.1) refl)
      (all_named es (All-tail (λ e. map.get cell.features e.0 ≡ Some e.1) e es h))

  -- ---- from the features to the list

  module _ (name : Name) (block : Block) where
    listed_once : (o : Option Block) → o ≡ Some block → HasBlock (named_with name o) name block
    listed_once o e = subst (λ (p : Option Block). HasBlock (named_with name p) name block) (sym e) (0, omega arith, refl)

    found_listed : (feature : Feature) → block_in cell table settings feature ≡ Some block → (es : List (Name × Feature)) → find name_cmp name es ≡ Some feature
        → HasBlock (flat_map (named_of cell table settings) es) name block
    found_listed feature drawn [] e = absurd (let no : ◌≡◌ {A = Option Feature} None (Some feature) = e in cc)
    found_listed feature drawn (f ∷ fs) e = by (eq_by_cmp name_cmp name f.0) refl e (found_listed feature drawn fs)
      where
        by : (b : Bool) → eq_by_cmp name_cmp name f.0 ≡ b → cond b (Some f.1) (find name_cmp name fs) ≡ Some feature
            → (find name_cmp name fs ≡ Some feature → HasBlock (flat_map (named_of cell table settings) fs) name block)
            → HasBlock (flat_map (named_of cell table settings) (f ∷ fs)) name block
        by true is found later =
            let key : name ≡ f.0 = name_cmp-IsAntisymmetric name f.0 (tied (name_cmp name f.0) is) in
            let value : f.1 ≡ feature = some_is f.1 feature found in
            let drawn_here : block_in cell table settings f.1 ≡ Some block = ap (block_in cell table settings) value ∙ drawn in
            Contains-append_left (named_of cell table settings f) (flat_map (named_of cell table settings) fs) (record { name = name; block = block })
            (subst (λ (n : Name). HasBlock (named_with n (block_in cell table settings f.1)) name block) key (listed_once (block_in cell table settings f.1) drawn_here))
        by false is found later =
            Contains-append_right (named_of cell table settings f) (flat_map (named_of cell table settings) fs) (record { name = name; block = block }) (later found)

    by_feature : (o : Option Feature) → map.get cell.features name ≡ o → option_and_then (block_in cell table settings) o ≡ Some block
        → HasBlock (named_blocks_in cell table settings) name block
    by_feature None there e = absurd (let no : ◌≡◌ {A = Option Block} None (Some block) = e in cc)
    by_feature (Some feature) there e =
        found_listed feature e (map.entries cell.features) (sym (map.get-entries cell.features name) ∙ there)

    pub listed_by_name : HasBlock (named_blocks_in cell table settings) name block ↔ (block_at cell table settings name ≡ Some block)
    listed_by_name = (
      λ has. All-contains IsNamed (named_blocks_in cell table settings) (record { name = name; block = block }) (all_named (map.entries cell.features) (entries_there cell)) has,
      by_feature (map.get cell.features name) refl,
    )

    -- the same of a list that was made
    pub made_by_name : (blocks : List NamedBlock) → blocks ≡ named_blocks_in cell table settings
        → HasBlock blocks name block ↔ (block_at cell table settings name ≡ Some block)
    made_by_name blocks made =
        subst (λ (l : List NamedBlock). HasBlock l name block ↔ (block_at cell table settings name ≡ Some block)) (sym made) listed_by_name
