-- The boxes of vector records, and the box round those that pointers name.
use Rattle.std.proofs.Common.{◌≡◌, T, List, [], ◌∷◌, ◌++◌, Option, Some, None, refl, sym, ap, ◌∙◌, append_assoc}
use Rattle.std.specs.Option.{option_and_then}
use Rattle.std.specs.List.{fold, flat_map}
use Rattle.std.specs.FinMap as finite
use Rattle.std.specs.FinMap.{is_sorted}
use Rattle.std.proofs.lemmas.List.{append-nil}
use Rattle.chart_model.specs.declared.name.Name.{Name}
use Rattle.chart_model.specs.declared.record.Pointer.{Pointer}
use Rattle.chart_model.specs.declared.cell.Vector.{Vector}
use Rattle.chart_model.specs.Names.{name_cmp}
use Rattle.chart_model.specs.Cell.{CellValue}
use Rattle.plane_geometry.specs.declared.point.Pt.{Pt}
use Rattle.plane_bounds.specs.declared.bounds.Bounds.{Bounds}
use Rattle.spatial_grid.specs.Boxes.{around_both, box_of, box_round, points_under, record_boxes}
use Rattle.spatial_grid.proofs.Leasts.{box_of-append}
use Rattle.spatial_grid.proofs.Named.{sorted_kept, find_kept}

module _ (cell : CellValue) where
  -- all points of the vector record of a name: none where there is no such record
  abbrev points_there : Name → Option Vector → List Pt
  points_there name None = []
  points_there name (Some vector) = points_under cell name vector

  abbrev pub points_at : Name → List Pt
  points_at name = points_there name (finite.get cell.vectors name)

  -- those of the records that pointers name
  abbrev pub points_to : List Pointer → List Pt
  points_to pointers = flat_map (λ (p : Pointer). points_at p.target) pointers

  pub records_sorted : T (is_sorted name_cmp (record_boxes cell))
  records_sorted =
      sorted_kept (λ (e : Name × Vector). box_of (points_under cell e.0 e.1)) (finite.entries cell.vectors) (finite.entries_sorted cell.vectors)

  found_there : (name : Name) (o : Option Vector) → option_and_then (λ (v : Vector). box_of (points_under cell name v)) o ≡ box_of (points_there name o)
  found_there name None = refl
  found_there name (Some vector) = refl

  -- the box under a name is that round the points of its record
  pub record_found : (name : Name) → finite.find name_cmp name (record_boxes cell) ≡ box_of (points_at name)
  record_found name =
      find_kept (λ (e : Name × Vector). box_of (points_under cell e.0 e.1)) name (finite.entries cell.vectors) (finite.entries_sorted cell.vectors)
      ∙ ap (option_and_then (λ (v : Vector). box_of (points_under cell name v))) (sym (finite.get-entries cell.vectors name))
      ∙ found_there name (finite.get cell.vectors name)

  rounded : (done : List Pt) (pointers : List Pointer) → fold (λ (found : Option Bounds) (p : Pointer). around_both found (finite.find name_cmp p.target (record_boxes cell))) (box_of done) pointers ≡ box_of (done ++ points_to pointers)
  rounded done [] = ap box_of (sym (append-nil done))
  rounded done (p ∷ pointers) =
      ap (λ (o : Option Bounds). fold (λ (found : Option Bounds) (q : Pointer). around_both found (finite.find name_cmp q.target (record_boxes cell))) o pointers)
      (ap (around_both (box_of done)) (record_found p.target) ∙ box_of-append done (points_at p.target))
      ∙ rounded (done ++ points_at p.target) pointers
      ∙ ap box_of (append_assoc done (points_at p.target) (points_to pointers))

  -- the box round the records that pointers name is that round their points
  pub round_is : (pointers : List Pointer) → box_round (record_boxes cell) pointers ≡ box_of (points_to pointers)
  round_is pointers = rounded [] pointers
