-- The boxes of a chart are a grid of it.
use Rattle.std.proofs.Common.{◌≡◌, T, Option, Some, None, refl, sym, ap, ◌∙◌}
use Rattle.std.specs.Option.{option_and_then}
use Rattle.std.specs.FinMap as finite
use Rattle.std.specs.FinMap.{is_sorted}
use Rattle.chart_model.specs.declared.name.Name.{Name}
use Rattle.chart_model.specs.declared.cell.Feature.{Feature}
use Rattle.chart_model.specs.Names.{name_cmp}
use Rattle.chart_model.specs.Cell.{CellValue}
use Rattle.area_rings.specs.declared.shape.Shape.{Shape}
use Rattle.area_rings.specs.Shape.{shape_of}
use Rattle.plane_bounds.specs.declared.bounds.Bounds.{Bounds}
use Rattle.spatial_grid.specs.Box.{points_in, HasBox, IsGridOf}
use Rattle.spatial_grid.specs.Boxes.{box_in, boxes_in}
use Rattle.spatial_grid.proofs.Leasts.{found_least, least_found}
use Rattle.spatial_grid.proofs.Named.{sorted_kept, find_kept}

module _ (cell : CellValue) where
  pub boxes_sorted : T (is_sorted name_cmp (boxes_in cell))
  boxes_sorted =
      sorted_kept (λ (e : Name × Feature). box_in (shape_of cell e.1)) (finite.entries cell.features) (finite.entries_sorted cell.features)

  -- the box under a name is that of the feature that stands there
  grid_get : (name : Name) → finite.get (finite.from_sorted {R = name_cmp} (boxes_in cell)) name ≡ option_and_then (λ (f : Feature). box_in (shape_of cell f)) (finite.get cell.features name)
  grid_get name =
      finite.get-from_sorted name_cmp (boxes_in cell) name boxes_sorted
      ∙ find_kept (λ (e : Name × Feature). box_in (shape_of cell e.1)) name (finite.entries cell.features) (finite.entries_sorted cell.features)
      ∙ ap (option_and_then (λ (f : Feature). box_in (shape_of cell f))) (sym (finite.get-entries cell.features name))

  shaped : (name : Name) (box : Bounds) (feature : Feature) → finite.get cell.features name ≡ Some feature → (o : Option Shape) → shape_of cell feature ≡ o → box_in o ≡ Some box → HasBox cell name box
  shaped name box feature there None is e = absurd (let no : ◌≡◌ {A = Option Bounds} None (Some box) = e in cc)
  shaped name box feature there (Some shape) is e = record {
    feature = feature;
    there = there;
    shape = shape;
    shaped = is;
    boxed = found_least (points_in shape) box e;
  }

  has_box : (name : Name) (box : Bounds) (o : Option Feature) → finite.get cell.features name ≡ o → option_and_then (λ (f : Feature). box_in (shape_of cell f)) o ≡ Some box → HasBox cell name box
  has_box name box None there e = absurd (let no : ◌≡◌ {A = Option Bounds} None (Some box) = e in cc)
  has_box name box (Some feature) there e = shaped name box feature there (shape_of cell feature) refl e

  box_had : (name : Name) (box : Bounds) → HasBox cell name box → option_and_then (λ (f : Feature). box_in (shape_of cell f)) (finite.get cell.features name) ≡ Some box
  box_had name box h =
      ap (option_and_then (λ (f : Feature). box_in (shape_of cell f))) h.there
      ∙ ap box_in h.shaped
      ∙ least_found (points_in h.shape) box h.boxed

  pub boxes_are_grid : IsGridOf cell (finite.from_sorted {R = name_cmp} (boxes_in cell))
  boxes_are_grid name box = (
    λ e. has_box name box (finite.get cell.features name) refl (sym (grid_get name) ∙ e),
    λ h. grid_get name ∙ box_had name box h,
  )
