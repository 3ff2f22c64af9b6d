-- A leg meets a shape in a box only where it reaches the box.
use Rattle.std.proofs.Common.{◌≡◌, inl, inr, Bool, true, false, List, [], ◌∷◌, refl}
use Rattle.std.specs.List.{All, Any, list_any}
use Rattle.std.proofs.lemmas.List.Folds.{Any-from_list_any}
use Rattle.chart_model.specs.declared.record.Coord.{Coord}
use Rattle.plane_geometry.specs.declared.point.Pt.{Pt}
use Rattle.plane_geometry.specs.EvenOdd.{all_segments}
use Rattle.plane_geometry.proofs.Walk.{AnyOf, any_out}
use Rattle.plane_bounds.specs.declared.bounds.Bounds.{Bounds}
use Rattle.plane_bounds.specs.Bounds.{IsIn, RingsIn, Meets}
use Rattle.plane_bounds.proofs.Ends.{AllOf, all_out, Ends, ends_zip, ends_rings}
use Rattle.plane_bounds.proofs.Outside.{inside_in_bounds}
use Rattle.area_rings.specs.declared.shape.Shape.{Shape}
use Rattle.area_rings.specs.declared.shape.Shape.TheVariants.{Points, Lines, Rings, Bare}
use Rattle.area_rings.specs.Edge.{point_of}
use Rattle.route_geometry.specs.declared.leg.Leg.{Leg}
use Rattle.route_geometry.specs.Leg.{MeetsSegment}
use Rattle.route_geometry.specs.Area.{MeetsArea}
use Rattle.route_geometry.specs.Parted.{meets_segment}
use Rattle.route_geometry.proofs.Tested.{tested_is_met, tested_area_is_met}
use Rattle.route_check.specs.Meeting.{line_segments, meets_coord, meets_line, meets_shape}
use Rattle.route_check.specs.Object.{ShapeIn}
use Rattle.route_check.specs.Reach.{reach_of}
use Rattle.route_check.proofs.Reaches.{met_meets, begun_meets}

not_true : (b : Bool) → (b ≡ true → ⊥) → b ≡ false
not_true true h = absurd (h refl)
not_true false h = refl

-- an element with one property, where all have the other
record Both {X : Type 0} (P Q : X → Type 0) : Type 0 where
  pub x : X
  pub first : P x
  pub second : Q x

both_of : {X : Type 0} (P Q : X → Type 0) (xs : List X) → AllOf P xs → AnyOf Q xs → Both P Q
both_of P Q [] all any = absurd any
both_of P Q (x ∷ xs) all (inl q) = record { x = x; first = all.0; second = q }
both_of P Q (x ∷ xs) all (inr any) = both_of P Q xs all.1 any

both : {X : Type 0} (P Q : X → Type 0) (xs : List X) → AllOf P xs → Any Q xs → Both P Q
both P Q xs all any = both_of P Q xs all (any_out Q xs any)

-- an element that passes a test, where all have a property
tested : {X : Type 0} (P : X → Type 0) (test : X → Bool) (xs : List X) → All P xs → list_any test xs ≡ true → Both P (λ x. test x ≡ true)
tested P test xs all e = both P (λ x. test x ≡ true) xs (all_out P xs all) (Any-from_list_any test xs e)

ends_line : (P : Pt → Type 0) (line : List Pt) → AllOf P line → AllOf (Ends P) (line_segments line)
ends_line P [] h = tt
ends_line P (first ∷ others) h = ends_zip P (first ∷ others) others h h.1

module _ (leg : Leg) (bounds : Bounds) where
  abbrev Reaches : Type 0
  Reaches = Meets bounds (reach_of leg)

  segment_reached : (ends : Both (Ends (IsIn bounds)) (λ s. MeetsSegment leg s.0 s.1)) → Reaches
  segment_reached ends = met_meets leg bounds ends.x.0 ends.x.1 ends.first.0 ends.first.1 ends.second

  coord_reached : (coord : Coord) → IsIn bounds (point_of coord) → meets_coord leg coord ≡ true → Reaches
  coord_reached coord q e =
      met_meets leg bounds (point_of coord) (point_of coord) q q (tested_is_met leg (point_of coord) (point_of coord) e)

  line_reached : (line : List Pt) → All (IsIn bounds) line → meets_line leg line ≡ true → Reaches
  line_reached line all e =
      let ends = both (Ends (IsIn bounds)) (λ s. meets_segment leg s.0 s.1 ≡ true) (line_segments line) (ends_line (IsIn bounds) line (all_out (IsIn bounds) line all)) (Any-from_list_any (λ s. meets_segment leg s.0 s.1) (line_segments line) e) in
      met_meets leg bounds ends.x.0 ends.x.1 ends.first.0 ends.first.1 (tested_is_met leg ends.x.0 ends.x.1 ends.second)

  area_reached : (rings : List (List Pt)) → RingsIn bounds rings → MeetsArea leg rings → Reaches
  area_reached rings all (inl some) =
      segment_reached (both (Ends (IsIn bounds)) (λ s. MeetsSegment leg s.0 s.1) (all_segments rings) (ends_rings (IsIn bounds) rings (all_out (All (IsIn bounds)) rings all)) some)
  area_reached rings all (inr inside) =
      begun_meets leg bounds (inside_in_bounds bounds leg.a rings all inside)

  pub reached : (shape : Shape) → ShapeIn bounds shape → meets_shape leg shape ≡ true → Reaches
  reached (Points coords) all e =
      let found = tested (λ coord. IsIn bounds (point_of coord)) (meets_coord leg) coords all e in
      coord_reached found.x found.first found.second
  reached (Lines lines) all e =
      let found = tested (All (IsIn bounds)) (meets_line leg) lines all e in
      line_reached found.x found.first found.second
  reached (Rings rings) all e = area_reached rings all (tested_area_is_met leg rings e)
  reached Bare all e = absurd (let no : ◌≡◌ {A = Bool} false true = e in cc)

  pub far_not_met : (shape : Shape) → ShapeIn bounds shape → (Reaches → ⊥) → meets_shape leg shape ≡ false
  far_not_met shape all far = not_true (meets_shape leg shape) (λ e. far (reached shape all e))
