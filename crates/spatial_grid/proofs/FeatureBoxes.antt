-- The box of a feature is that round the records that it points to.
use Rattle.std.proofs.Common.{◌≡◌, ◌≢◌, Bool, true, false, List, Option, Some, None, IsSome, option_map, refl, sym, ◌∙◌}
use Rattle.std.specs.Prelude.{◌==◌, if◌then◌else◌}
use Rattle.std.proofs.lemmas.Bool.{false≢true, eqb-true}
use Rattle.chart_model.specs.declared.record.Coord.{Coord}
use Rattle.chart_model.specs.declared.cell.Feature.{Feature}
use Rattle.chart_model.specs.Cell.{CellValue}
use Rattle.plane_geometry.specs.declared.point.Pt.{Pt}
use Rattle.area_rings.specs.declared.shape.Shape.{Shape}
use Rattle.area_rings.specs.declared.shape.Shape.TheVariants.{Points, Lines, Rings, Bare}
use Rattle.area_rings.specs.Rings.{HasRings}
use Rattle.area_rings.specs.Shape.{lines_of, points_of, rings_of, shape_of}
use Rattle.plane_bounds.specs.declared.bounds.Bounds.{Bounds}
use Rattle.spatial_grid.specs.Boxes.{box_in, box_of, box_round, record_boxes}
use Rattle.spatial_grid.proofs.Leasts.{box_of-same}
use Rattle.spatial_grid.proofs.RecordBoxes.{points_to, round_is}
use Rattle.spatial_grid.proofs.ShapePoints.{point_points, line_points, area_points}

-- by the one shape or by the other
choice : (b : Bool) (one other : Option Shape) (box : Option Bounds) → (IsSome one → box_in one ≡ box) → (IsSome other → box_in other ≡ box) → IsSome (if b then one else other) → box_in (if b then one else other) ≡ box
choice true one other box f g some = f some
choice false one other box f g some = g some

-- an object without a primitive has no point
pub bare_boxed : (cell : CellValue) (feature : Feature) → feature.prim ≡ 255 → None ≡ box_in (shape_of cell feature)
unfolding shape_of
bare_boxed cell feature is = rw is refl

module _ (cell : CellValue) (feature : Feature) (law : (rings : List (List Pt)) → rings_of cell feature.pointers ≡ Some rings → HasRings cell feature.pointers rings) where
  point : (o : Option (List Coord)) → points_of cell feature.pointers ≡ o → IsSome (option_map Points o) → box_in (option_map Points o) ≡ box_of (points_to cell feature.pointers)
  point None e some = absurd (false≢true some)
  point (Some coords) e some = box_of-same _ _ (point_points cell feature.pointers coords e)

  line : (o : Option (List (List Pt))) → lines_of cell feature.pointers ≡ o → IsSome (option_map Lines o) → box_in (option_map Lines o) ≡ box_of (points_to cell feature.pointers)
  line None e some = absurd (false≢true some)
  line (Some lines) e some = box_of-same _ _ (line_points cell feature.pointers lines e)

  area : (o : Option (List (List Pt))) → rings_of cell feature.pointers ≡ o → IsSome (option_map Rings o) → box_in (option_map Rings o) ≡ box_of (points_to cell feature.pointers)
  area None e some = absurd (false≢true some)
  area (Some rings) e some = box_of-same _ _ (area_points cell feature.pointers rings (law rings e))

  bare : (b : Bool) → (feature.prim == 255) ≡ b → feature.prim ≢ 255 → IsSome (if b then Some Bare else None) → box_in (if b then Some Bare else None) ≡ box_of (points_to cell feature.pointers)
  bare true e placed some = absurd (placed (eqb-true feature.prim 255 e))
  bare false e placed some = absurd (false≢true some)

  shape_boxed : feature.prim ≢ 255 → IsSome (shape_of cell feature) → box_in (shape_of cell feature) ≡ box_of (points_to cell feature.pointers)
  unfolding shape_of
  shape_boxed placed some =
      choice (feature.prim == 1) _ _ _ (point (points_of cell feature.pointers) refl)
      (choice (feature.prim == 2) _ _ _ (line (lines_of cell feature.pointers) refl)
      (choice (feature.prim == 3) _ _ _ (area (rings_of cell feature.pointers) refl)
      (bare (feature.prim == 255) refl placed))) some

  pub round_boxed : feature.prim ≢ 255 → IsSome (shape_of cell feature) → box_round (record_boxes cell) feature.pointers ≡ box_in (shape_of cell feature)
  round_boxed placed some = round_is cell feature.pointers ∙ sym (shape_boxed placed some)
