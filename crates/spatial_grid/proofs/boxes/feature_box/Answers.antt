use Rattle.std.proofs.Common.{◌≡◌, T, List, Option, Some, None, IsSome, refl, sym, ap, ◌∙◌, subst}
use Rattle.std.specs.FinMap.{is_sorted}
use Rattle.std.proofs.lemmas.Bool.{false≢true}
use Rattle.chart_model.specs.declared.name.Name.{Name}
use Rattle.chart_model.specs.Names.{name_cmp}
use Rattle.area_rings.specs.declared.shape.Shape.{Shape}
use Rattle.area_rings.specs.Shape.{shape_of}
use Rattle.plane_bounds.specs.declared.bounds.Bounds.{Bounds}
use Rattle.spatial_grid.specs.Boxes.{box_in, box_round}
use Rattle.spatial_grid.proofs.FeatureBoxes.{bare_boxed, round_boxed}
use Rattle.spatial_grid.proofs.RecordBoxes.{records_sorted}
use Rattle.spatial_grid.proofs.boxes.feature_box.Goals as goal
use Rattle.spatial_grid.proofs.boxes.feature_box.Goals.{then-feature-via-then-feature, then-feature-via-else-feature+then-not-has_shape}

no_shape : (shape : Option Shape) → (IsSome shape → ⊥) → None ≡ box_in shape
no_shape None none = refl
no_shape (Some shape) none = absurd (none refl)

pub returns-then-feature : goal.returns-then-feature
returns-then-feature c =
    elim c.then-feature.branch [
      | then-feature-via-then-feature w ↦ bare_boxed c.args.cell.now c.args.feature.now w.if-feature.true
      | then-feature-via-else-feature+then-not-has_shape w ↦
          no_shape (shape_of c.args.cell.now c.args.feature.now) (λ some. false≢true (w.if-not-has_shape.ensures.1 some))
    ]

pub box_round-requires : goal.box_round-requires
box_round-requires c = subst (λ (l : List (Name × Bounds)). T (is_sorted name_cmp l)) (sym c.requires) (records_sorted c.args.cell.now)

pub returns : goal.returns
returns c =
    c.box_round.ensures
    ∙ ap (λ (l : List (Name × Bounds)). box_round l c.as_slice.result.now) c.requires
    ∙ ap (box_round _) c.as_slice.ensures
    ∙ round_boxed c.args.cell.now c.args.feature.now
    (λ rings. (c.rings_are_shortest.ensures c.args.cell.now c.args.feature.now.pointers rings).0)
    c.if-feature.false (c.if-not-has_shape.ensures.0 refl)
