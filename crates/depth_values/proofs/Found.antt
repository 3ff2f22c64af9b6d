-- Features that are found by the names of areas.
use Rattle.std.proofs.Common.{◌≡◌, inl, inr, ℕ, cond, T, List, [], ◌∷◌, ◌++◌, Option, Some, None, refl, sym, ap, ◌∙◌, subst, append_assoc}
use Rattle.std.specs.Prelude.{option_map, slice_get}
use Rattle.std.specs.declared.cmp.Ordering.{Ordering}
use Rattle.std.specs.declared.cmp.Ordering.TheVariants.{Less, Greater}
use Rattle.std.specs.Ordering.{is_eq, eq_by_cmp, ordering_reverse}
use Rattle.std.specs.Cmp.{IsTotalOrder, tied_itself}
use Rattle.std.specs.List.{Contains, filter_map, cons_option}
use Rattle.std.specs.FinMap as finite
use Rattle.std.specs.FinMap.{FinMap, find, is_sorted}
use Rattle.std.specs.FinMap.Entries.{below_all}
use Rattle.std.proofs.lemmas.List.Elements.{filter_map-append, Contains-append_left}
use Rattle.std.proofs.lemmas.Option.{slice_get_within, get_or_from_slice_get}
use Rattle.common_lemmas.proofs.Choices.{chosen, some_is, map_some}
use Rattle.common_lemmas.proofs.Members.{Has, has_out}
use Rattle.chart_model.proofs.Names.{name_cmp-total}
use Rattle.chart_model.proofs.SortedEntries.{first, second, less}
use Rattle.chart_model.specs.declared.name.Name.{Name}
use Rattle.chart_model.specs.declared.cell.Feature.{Feature}
use Rattle.chart_model.specs.Cell.{CellValue}
use Rattle.plane_geometry.specs.declared.point.Pt.{Pt}
use Rattle.area_rings.specs.Shape.{rings_of}
use Rattle.depth_values.specs.Area.{d1_of}
use Rattle.depth_values.specs.DepthArea.{AreaValue}
use Rattle.depth_values.specs.Made.{AreMade, IsTwin, with_feature}
use Rattle.depth_values.specs.Under.{area_at, areas_of, is_depth_area}

-- ---- entries in the order of their keys

module _ {K X : Type 0} {R : K → K → Ordering} (total : IsTotalOrder R) where
  behind : (k : K) (v : X) (j : K) (es : List (K × X)) → T (below_all R j es) → Has (k, v) es → R j k ≡ Less
  behind k v j [] below h = absurd h
  behind k v j (f ∷ fs) below (inl e) = subst (λ (g : K × X). R j g.0 ≡ Less) e (less _ (first _ _ below))
  behind k v j (f ∷ fs) below (inr h) = behind k v j fs (second _ _ below) h

  found : (k : K) (v : X) (es : List (K × X)) → T (is_sorted R es) → Has (k, v) es → find R k es ≡ Some v
  found k v [] sorted h = absurd h
  found k v (f ∷ fs) sorted (inl e) =
      ap (λ (g : K × X). cond (eq_by_cmp R k g.0) (Some g.1) (find R k fs)) e
      ∙ ap (λ (o : Ordering). cond (is_eq o) (Some v) (find R k fs)) (tied_itself total k)
  found k v (f ∷ fs) sorted (inr h) =
      let above : R k f.0 ≡ Greater = total.antisymm k f.0 ∙ ap ordering_reverse (behind k v f.0 fs (first _ _ sorted) h) in
      ap (λ (o : Ordering). cond (is_eq o) (Some f.1) (find R k fs)) above ∙ found k v fs (second _ _ sorted) h

  entry_found : (m : FinMap R X) (k : K) (v : X) → Has (k, v) (finite.entries m) → finite.get m k ≡ Some v
  entry_found m k v h = finite.get-entries m k ∙ found k v (finite.entries m) (finite.entries_sorted m) h

-- ---- what areas are made of

-- what is kept is kept of an element
kept_of : {X Y : Type 0} (f : X → Option Y) (xs : List X) (y : Y) → Has y (filter_map f xs) → (x : X) × Has x xs × (f x ≡ Some y)
kept_of f [] y h = absurd h
kept_of {X} {Y} f (x ∷ xs) y h = by (kept_of f xs y) (f x) refl h
  where
    by : (Has y (filter_map f xs) → (z : X) × Has z xs × (f z ≡ Some y)) → (o : Option Y) → f x ≡ o → Has y (cons_option o (filter_map f xs))
        → (z : X) × Has z (x ∷ xs) × (f z ≡ Some y)
    by later None is q = let r = later q in (r.0, inr r.1, r.2)
    by later (Some z) is (inl e) = (x, inl refl, is ∙ ap Some e)
    by later (Some z) is (inr q) = let r = later q in (r.0, inr r.1, r.2)

-- an area has the name of its entry, and the rings of its pointers
rings_made : (cell : CellValue) (entry : Name × Feature) (area : AreaValue) → area_at cell entry ≡ Some area → (area.name ≡ entry.0) × (rings_of cell entry.1.pointers ≡ Some area.rings)
rings_made cell entry area e =
    elim (chosen (is_depth_area entry.1) _ _ _ e) [
      | inl q ↦
          let r = map_some (λ (rings : List (List Pt)). record { name = entry.0; d1 = d1_of entry.1; rings = rings }) (rings_of cell entry.1.pointers) area q.1 in
          (ap (λ (a : AreaValue). a.name) (sym r.2), r.1 ∙ ap Some (ap (λ (a : AreaValue). a.rings) r.2))
      | inr q ↦ absurd (let none : ◌≡◌ {A = Option AreaValue} None (Some area) = q.1 in cc)
    ]

-- the first areas of a chart have the rings of their features
pub are_made : (cell : CellValue) (areas rest : List AreaValue) → areas ++ rest ≡ areas_of cell → AreMade cell areas
are_made cell areas rest all area among feature named =
    let there : Contains (areas_of cell) area = subst (λ (l : List AreaValue). Contains l area) all (Contains-append_left areas rest area among) in
    let of = kept_of (area_at cell) (finite.entries cell.features) area (has_out (areas_of cell) area there) in
    let made = rings_made cell of.0 area of.2 in
    let kept = entry_found name_cmp-total cell.features of.0.0 of.0.1 of.1 in
    let same : of.0.1 ≡ feature = some_is of.0.1 feature (sym kept ∙ ap (finite.get cell.features) (sym made.0) ∙ named) in
    ap (λ (f : Feature). rings_of cell f.pointers) (sym same) ∙ made.1

-- ---- one area more

pub feature_next : (cell : CellValue) (old new : List AreaValue) (entry : Name × Feature) (rest : List (Name × Feature)) → new ≡ with_feature cell old entry
    → old ++ filter_map (area_at cell) (entry ∷ rest) ≡ areas_of cell → new ++ filter_map (area_at cell) rest ≡ areas_of cell
feature_next cell old new entry rest is h =
    ap (λ (l : List AreaValue). l ++ filter_map (area_at cell) rest) is
    ∙ append_assoc old (filter_map (area_at cell) (entry ∷ [])) (filter_map (area_at cell) rest)
    ∙ ap (λ (l : List AreaValue). old ++ l) (sym (filter_map-append (area_at cell) (entry ∷ []) rest))
    ∙ h

-- an area whose feature has the same pointers has the same rings
pub twin_found : (cell : CellValue) (areas : List AreaValue) (feature twin : Feature) (name : Name) (place : ℕ) → AreMade cell areas
    → ◌≡◌ {A = Option Name} (Some name) (option_map (λ (area : AreaValue). area.name) (slice_get areas place)) → finite.get cell.features name ≡ Some twin → twin.pointers ≡ feature.pointers
    → IsTwin cell areas feature place
twin_found cell areas feature twin name place made named found same =
    let r = map_some (λ (area : AreaValue). area.name) (slice_get areas place) name (sym named) in
    let among : Contains areas r.0 = (place, slice_get_within areas place r.0 r.1, get_or_from_slice_get areas place r.0 r.0 r.1) in
    record {
      area = r.0;
      there = r.1;
      rings = ap (rings_of cell) (sym same) ∙ made r.0 among twin (ap (finite.get cell.features) r.2 ∙ found);
    }
