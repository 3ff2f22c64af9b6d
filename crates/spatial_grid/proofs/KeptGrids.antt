-- A grid stays that of a chart where its vector records and the places of its features stay.
use Rattle.std.proofs.Common.{◌≡◌, ◌≢◌, ◌⊎◌, inl, inr, ⊎_elim, List, Option, Some, None, IfSome, refl, sym, ap, ◌∙◌, subst}
use Rattle.std.specs.Coded.{Coded, coded_option}
use Rattle.std.specs.List.{All}
use Rattle.std.specs.FinMap as finite
use Rattle.std.proofs.lemmas.Bool.{cases_eq}
use Rattle.std.proofs.lemmas.List.Elements.{All-contains, All-weaker}
use Rattle.std.proofs.lemmas.Option.{same_Some}
use base.Stored.{Gv, gnil, gnum, gcons}
use Rattle.chart_model.specs.declared.name.Name.{Name}
use Rattle.chart_model.specs.declared.cell.Feature.{Feature}
use Rattle.chart_model.specs.contracts.cell.Vector as vector
use Rattle.chart_model.specs.contracts.cell.Feature as feature
use Rattle.chart_model.specs.Names.{name_cmp}
use Rattle.chart_model.specs.Cell.{CellValue, IsCell, IsFeature}
use Rattle.chart_model.proofs.Names.{name_cmp-total, name_cmp-IsAntisymmetric}
use Rattle.area_rings.specs.Edge.{edge_of, place_of}
use Rattle.area_rings.specs.Rings.{rings_of}
use Rattle.area_rings.specs.Shape.{shape_of}
use Rattle.chart_difference.specs.Difference.{HasAll}
use Rattle.chart_difference.proofs.RecordNames as records
use Rattle.plane_bounds.specs.declared.bounds.Bounds.{Bounds}
use Rattle.spatial_grid.specs.Box.{HasBox, IsGridOf}
use Rattle.spatial_grid.specs.Kept.{HaveSamePlace, KeepsBox}

-- ---- values that have a code are the same or apart

-- the first and the second of two that are joined
front : Gv → Gv
front gnil = gnil
front (gnum n) = gnil
front (gcons a b) = a

codes_decided : (x y : Gv) → (x ≡ y) ⊎ (x ≢ y)
codes_decided gnil gnil = inl refl
codes_decided gnil (gnum n) = inr (λ e. cc)
codes_decided gnil (gcons c d) = inr (λ e. cc)
codes_decided (gnum m) gnil = inr (λ e. cc)
codes_decided (gnum m) (gnum n) = ⊎_elim (λ e. inl (ap gnum e)) (λ apart. inr (λ e. apart (cc))) (cases_eq m n)
codes_decided (gnum m) (gcons c d) = inr (λ e. cc)
codes_decided (gcons a b) gnil = inr (λ e. cc)
codes_decided (gcons a b) (gnum n) = inr (λ e. cc)
codes_decided (gcons a b) (gcons c d) =
    ⊎_elim
    (λ e. ⊎_elim (λ f. inl (λ i. gcons (e i) (f i))) (λ apart. inr (λ g. apart (cc))) (codes_decided b d))
    (λ apart. inr (λ g. apart (cc)))
    (codes_decided a c)

decided : {X : Type 0} → Coded X → (x y : X) → (x ≡ y) ⊎ (x ≢ y)
decided code x y = ⊎_elim (λ e. inl (code.inj x y e)) (λ apart. inr (λ e. apart (ap code.code e))) (codes_decided (code.code x) (code.code y))

-- ---- shapes

-- a shape hangs on the vector records, and on the primitive and the pointers of the feature
shape_kept : (old new : CellValue) (before after : Feature) → old.vectors ≡ new.vectors → HaveSamePlace before after → shape_of new after ≡ shape_of old before
unfolding shape_of rings_of edge_of place_of
shape_kept old new before after vectors same =
    λ i. shape_of (record old { vectors = sym vectors i }) (record before { prim = same.prim i; pointers = same.pointers i })

-- ---- charts in which only such features differ

-- no vector record has the name of a feature
pub no_vector : (cell : CellValue) (name : Name) (feature : Feature) → IsCell cell → finite.get cell.features name ≡ Some feature → finite.get cell.vectors name ≡ None
no_vector cell name feature is there =
    records.no_vector cell name is (subst (λ (o : Option Feature). IfSome o (IsFeature name)) there (is.features name)).named

module _ (old new : CellValue) (names : List Name) (all : HasAll (Some old) (Some new) names) (kept : All (KeepsBox old new) names) where
  same_vector : (name : Name) → finite.get old.vectors name ≡ finite.get new.vectors name
  same_vector name =
      ⊎_elim (λ e. e)
      (λ apart.
      let k = All-contains (KeepsBox old new) names name kept (all name (inl apart)) in
      k.no_vector_before ∙ sym k.no_vector_after)
      (decided (coded_option vector.the_row.coded) (finite.get old.vectors name) (finite.get new.vectors name))

  same_vectors : old.vectors ≡ new.vectors
  same_vectors = finite.same_map name_cmp-total name_cmp-IsAntisymmetric old.vectors new.vectors same_vector

  -- the feature of the new chart in the place of one of the old
  record Stays (name : Name) (before : Feature) : Type 0 where
    after : Feature
    there : finite.get new.features name ≡ Some after
    same : HaveSamePlace before after

  stays : (name : Name) (before : Feature) → finite.get old.features name ≡ Some before → Stays name before
  stays name before there =
      ⊎_elim
      (λ e. record { after = before; there = sym e ∙ there; same = record { prim = refl; pointers = refl } })
      (λ apart.
      let k = All-contains (KeepsBox old new) names name kept (all name (inr apart)) in
      record { after = k.after; there = k.is; same = subst (λ (f : Feature). HaveSamePlace f k.after) (same_Some _ _ (sym k.was ∙ there)) k.same })
      (decided (coded_option feature.the_row.coded) (finite.get old.features name) (finite.get new.features name))

  box_kept : (name : Name) (box : Bounds) → HasBox old name box → HasBox new name box
  box_kept name box h =
      let s = stays name h.feature h.there in
      record {
        feature = s.after;
        there = s.there;
        shape = h.shape;
        shaped = shape_kept old new h.feature s.after same_vectors s.same ∙ h.shaped;
        boxed = h.boxed;
      }

-- both ways
has_all_back : (old new : CellValue) (names : List Name) → HasAll (Some old) (Some new) names → HasAll (Some new) (Some old) names
has_all_back old new names all name differ =
    all name (⊎_elim (λ v. inl (λ e. v (sym e))) (λ f. inr (λ e. f (sym e))) differ)

kept_back : (old new : CellValue) (names : List Name) → All (KeepsBox old new) names → All (KeepsBox new old) names
kept_back old new names =
    All-weaker (KeepsBox old new) (KeepsBox new old)
    (λ name k. record {
      before = k.after;
      after = k.before;
      was = k.is;
      is = k.was;
      same = record { prim = sym k.same.prim; pointers = sym k.same.pointers };
      no_vector_before = k.no_vector_after;
      no_vector_after = k.no_vector_before;
    })
    names

pub grid_kept : (old new : CellValue) (names : List Name) → HasAll (Some old) (Some new) names → All (KeepsBox old new) names → (grid : finite.FinMap name_cmp Bounds) → IsGridOf old grid → IsGridOf new grid
grid_kept old new names all kept grid is name box = (
  λ e. box_kept old new names all kept name box ((is name box).0 e),
  λ h. (is name box).1 (box_kept new old names (has_all_back old new names all) (kept_back old new names kept) name box h),
)
