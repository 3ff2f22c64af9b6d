-- With the grids of all charts nothing is lost by asking them first.
use Rattle.std.proofs.Common.{◌≡◌, ◌≢◌, inl, inr, ℕ, ◌-◌, ◌<◌, pos, true, List, [], ◌∷◌, ◌++◌, map, length, Some, sym, subst, arith}
use Rattle.std.specs.Prelude.{◌↔◌}
use Rattle.std.specs.List.{All, AllPairs, Contains, flat_map, slice_get}
use Rattle.std.specs.declared.cmp.Ordering.TheVariants.{Less}
use Rattle.std.proofs.lemmas.Int.{ints}
use Rattle.std.proofs.lemmas.List.Elements.{All-nil, All-cons, All-head, All-tail}
use Rattle.std.proofs.lemmas.Option.{slice_get_within, get_or_from_slice_get}
use Rattle.chart_model.specs.declared.record.Coord.{Coord}
use Rattle.chart_model.specs.declared.cell.Feature.{Feature}
use Rattle.chart_model.specs.declared.name.Name.{Name}
use Rattle.chart_model.specs.declared.settings.Settings.{Settings}
use Rattle.chart_model.specs.Cell.{CellValue}
use Rattle.chart_model.specs.Codes.{FEATURE}
use Rattle.chart_model.specs.State.{StateValue}
use Rattle.plane_geometry.specs.declared.point.Pt.{Pt}
use Rattle.plane_bounds.specs.declared.bounds.Bounds.{Bounds}
use Rattle.plane_bounds.specs.Bounds.{IsIn, Meets}
use Rattle.area_rings.specs.declared.shape.Shape.{Shape}
use Rattle.area_rings.specs.declared.shape.Shape.TheVariants.{Points, Lines, Rings, Bare}
use Rattle.area_rings.specs.Edge.{point_of}
use Rattle.area_rings.specs.Shape.{shape_of}
use Rattle.route_geometry.specs.declared.leg.Leg.{Leg}
use Rattle.spatial_grid.specs.Box.{points_in}
use Rattle.spatial_grid.proofs.Leasts.{least_there}
use Rattle.route_check.specs.declared.danger.Danger.{Danger}
use Rattle.route_check.specs.declared.route.Route.{Route}
use Rattle.route_check.specs.Reach.{reach_of}
use Rattle.route_check.specs.Meeting.{meets_shape}
use Rattle.route_check.specs.Object.{ShapeIn}
use Rattle.route_check.specs.Danger.{IsObject}
use Rattle.route_check.specs.Grids.{GridsValue, HasGrids, IsAsked}
use Rattle.route_check.specs.Report.{danger_cmp, IsRow, IsReport, IsReportBy}
use Rattle.route_check.proofs.Far.{reached}
use Rattle.route_check.proofs.Meets.{Decides-shape}

-- ---- boxes round shapes

coords_in : (P : Pt → Type 0) (coords : List Coord) → All P (map point_of coords) → All (λ coord. P (point_of coord)) coords
coords_in P [] h = All-nil (λ coord. P (point_of coord))
coords_in P (coord ∷ coords) h =
    All-cons (λ coord. P (point_of coord)) coord coords (All-head P (point_of coord) (map point_of coords) h)
    (coords_in P coords (All-tail P (point_of coord) (map point_of coords) h))

front : {X : Type 0} (P : X → Type 0) (xs ys : List X) → All P (xs ++ ys) → All P xs
front P [] ys h = All-nil P
front P (x ∷ xs) ys h = All-cons P x xs (All-head P x (xs ++ ys) h) (front P xs ys (All-tail P x (xs ++ ys) h))

back : {X : Type 0} (P : X → Type 0) (xs ys : List X) → All P (xs ++ ys) → All P ys
back P [] ys h = h
back P (x ∷ xs) ys h = back P xs ys (All-tail P x (xs ++ ys) h)

parts_in : (P : Pt → Type 0) (parts : List (List Pt)) → All P (flat_map (λ part. part) parts) → All (λ part. All P part) parts
parts_in P [] h = All-nil (λ (part : List Pt). All P part)
parts_in P (part ∷ parts) h =
    All-cons (λ (part : List Pt). All P part) part parts (front P part (flat_map (λ part. part) parts) h)
    (parts_in P parts (back P part (flat_map (λ part. part) parts) h))

shape_in : (box : Bounds) (shape : Shape) → All (IsIn box) (points_in shape) → ShapeIn box shape
shape_in box (Points coords) all = coords_in (IsIn box) coords all
shape_in box (Lines lines) all = parts_in (IsIn box) lines all
shape_in box (Rings rings) all = parts_in (IsIn box) rings all
shape_in box Bare all = tt

-- ---- a shape that is met has a point

none_there : (p : Pt) → IsIn (record { x0 = pos 1; y0 = pos 0; x1 = pos 0; y1 = pos 0 }) p → ⊥
none_there p q = absurd (omega (arith, ints, q.west, q.east))

has_point : (leg : Leg) (shape : Shape) → meets_shape leg shape ≡ true → points_in shape ≢ []
has_point leg shape met none =
    let box : Bounds = record { x0 = pos 1; y0 = pos 0; x1 = pos 0; y1 = pos 0 } in
    let inside : ShapeIn box shape = shape_in box shape (subst (λ (l : List Pt). All (IsIn box) l) (sym none) (All-nil (IsIn box))) in
    let m : Meets box (reach_of leg) = reached leg box shape inside met in
    none_there m.p m.in_one

-- ---- the shape of an object is a part of that of its feature

-- the feature's shape has a point where that of the object has one, and each box round it is one round the object
record IsPart (part whole : Shape) : Type 0 where
  some : points_in part ≢ [] → points_in whole ≢ []
  inside : (box : Bounds) → All (IsIn box) (points_in whole) → ShapeIn box part

is_itself : (shape : Shape) → IsPart shape shape
is_itself shape = record { some = λ h. h; inside = λ box all. shape_in box shape all }

filled : (coords : List Coord) (k : ℕ) (coord : Coord) → slice_get coords k ≡ Some coord → map point_of coords ≢ []
filled [] k coord there none =
    let within : k < length {A = Coord} [] = slice_get_within [] k coord there in
    omega (arith, within)
filled (first ∷ others) k coord there none = cc

is_sounding : (coords : List Coord) (k : ℕ) (coord : Coord) → slice_get coords k ≡ Some coord → IsPart (Points (coord ∷ [])) (Points coords)
is_sounding coords k coord there = record {
  some = λ h. filled coords k coord there;
  inside = λ box all.
      let one = coords_in (IsIn box) coords all k coord (slice_get_within coords k coord there) in
      let here : IsIn box (point_of coord) = subst (λ (c : Coord). IsIn box (point_of c)) (get_or_from_slice_get coords k coord coord there) one in
      All-cons (λ (c : Coord). IsIn box (point_of c)) coord [] here (All-nil (λ (c : Coord). IsIn box (point_of c)));
}

record IsPartOf (cell : CellValue) (feature : Feature) (part : Shape) : Type 0 where
  whole : Shape
  shaped : shape_of cell feature ≡ Some whole
  is : IsPart part whole

part_of : (cell : CellValue) (settings : Settings) (feature : Feature) (place : ℕ) (shape : Shape) → IsObject cell settings feature place shape → IsPartOf cell feature shape
part_of cell settings feature place shape (inl w) = record { whole = shape; shaped = w.shaped; is = is_itself shape }
part_of cell settings feature place shape (inr s) = record {
  whole = Points s.coords;
  shaped = s.points;
  is = subst (λ (part : Shape). IsPart part (Points s.coords)) (sym s.alone) (is_sounding s.coords (place - 1) s.coord s.there);
}

-- ---- the report by the grids

-- the rows that are wanted, in order, each once
pub by_rows : (grids : GridsValue) (state : StateValue) (settings : Settings) (route : Route) (rows sorted : List Danger)
    → ((d : Danger) → Contains rows d ↔ (IsRow state settings route d × IsAsked grids route d))
    → ((d : Danger) → Contains sorted d ↔ Contains rows d) → AllPairs (λ x y. danger_cmp x y ≡ Less) sorted
    → IsReportBy grids state settings route sorted
by_rows grids state settings route rows sorted wanted same ordered = record {
  rows = λ d. (λ h. (wanted d).0 ((same d).0 h), λ w. (same d).1 ((wanted d).1 w));
  ordered = ordered;
}

-- ---- each row is asked for

module _ (grids : GridsValue) (state : StateValue) (settings : Settings) (route : Route) (has : HasGrids state grids) where
  asked : (d : Danger) → IsRow state settings route d → IsAsked grids route d
  asked d row =
      let of = has d.key row.holding row.chart row.held row.charted in
      let part = part_of row.chart settings row.feature d.place row.shape row.dangerous in
      let met = (Decides-shape row.leg row.shape).1 row.meets in
      let least = least_there (points_in part.whole) (part.is.some (has_point row.leg row.shape met)) in
      let name : Name = record { rcnm = FEATURE; rcid = d.rcid } in
      record {
        leg = row.leg;
        on_route = row.on_route;
        grid = of.grid;
        there = of.there;
        candidate = record {
          box = least.0;
          there = (of.is_grid name least.0).1 (record {
            feature = row.feature;
            there = row.there;
            shape = part.whole;
            shaped = part.shaped;
            boxed = least.1;
          });
          meets = reached row.leg least.0 row.shape (part.is.inside least.0 least.1.all) met;
        };
      }

  -- so the report by the grids is the report
  pub is_exact : (report : List Danger) → IsReportBy grids state settings route report → IsReport state settings route report
  is_exact report by = record {
    rows = λ d. (λ h. ((by.rows d).0 h).0, λ row. (by.rows d).1 (row, asked d row));
    ordered = by.ordered;
  }
