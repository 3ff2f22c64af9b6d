-- The tests of what a leg meets say the same as the relations.
use Rattle.std.proofs.Common.{◌≡◌, inl, inr, Bool, true, false, List, [], ◌∷◌}
use Rattle.std.specs.Bool.{Decides}
use Rattle.std.specs.List.{list_any, flat_map, Any}
use Rattle.std.proofs.lemmas.Bool.Decides.{Decides-like}
use Rattle.std.proofs.lemmas.List.Folds.{Any-from_list_any, list_any-from_Any}
use Rattle.plane_geometry.specs.declared.point.Pt.{Pt}
use Rattle.plane_geometry.proofs.Walk.{AnyOf, any_out, any_in, any_left, any_right, any_either}
use Rattle.area_rings.specs.declared.shape.Shape.{Shape}
use Rattle.area_rings.specs.declared.shape.Shape.TheVariants.{Points, Lines, Rings, Bare}
use Rattle.area_rings.specs.Edge.{point_of}
use Rattle.route_geometry.specs.declared.leg.Leg.{Leg}
use Rattle.route_geometry.specs.Leg.{MeetsSegment}
use Rattle.route_geometry.specs.Parted.{meets_segment}
use Rattle.route_geometry.proofs.Tested.{tested_is_met, met_is_tested, tested_area_is_met, met_area_is_tested}
use Rattle.route_check.specs.Meeting.{line_segments, meets_coord, meets_line, meets_shape, MeetsShape}

Decides-list_any : {X : Type 0} (test : X → Bool) (P : X → Type 0) → ((x : X) → Decides (test x) (P x)) → (xs : List X) → Decides (list_any test xs) (Any P xs)
Decides-list_any test P each xs = (
  λ e. let a = Any-from_list_any test xs e in (a.0, a.1, a.2, a.3, (each a.1).0 a.4),
  λ a. list_any-from_Any test xs (a.0, a.1, a.2, a.3, (each a.1).1 a.4),
)

-- an element of one of the lists is one of the joined list
joined : {X A : Type 0} (P : A → Type 0) (f : X → List A) (xs : List X) → AnyOf (λ x. Any P (f x)) xs → AnyOf P (flat_map f xs)
joined P f [] h = h
joined P f (x ∷ xs) (inl h) = any_left P (f x) (flat_map f xs) (any_out P (f x) h)
joined P f (x ∷ xs) (inr h) = any_right P (f x) (flat_map f xs) (joined P f xs h)

parted : {X A : Type 0} (P : A → Type 0) (f : X → List A) (xs : List X) → AnyOf P (flat_map f xs) → AnyOf (λ x. Any P (f x)) xs
parted P f [] h = h
parted P f (x ∷ xs) h =
    elim (any_either P (f x) (flat_map f xs) h) [ inl a ↦ inl (any_in P (f x) a) | inr b ↦ inr (parted P f xs b) ]

module _ (leg : Leg) where
  Decides-segment : (s : Pt × Pt) → Decides (meets_segment leg s.0 s.1) (MeetsSegment leg s.0 s.1)
  Decides-segment s = (tested_is_met leg s.0 s.1, met_is_tested leg s.0 s.1)

  abbrev Meets : Pt × Pt → Type 0
  Meets s = MeetsSegment leg s.0 s.1

  Decides-line : (line : List Pt) → Decides (meets_line leg line) (Any Meets (line_segments line))
  Decides-line line = Decides-list_any (λ s. meets_segment leg s.0 s.1) Meets Decides-segment (line_segments line)

  Decides-lines : (lines : List (List Pt)) → Decides (list_any (meets_line leg) lines) (Any Meets (flat_map line_segments lines))
  Decides-lines lines =
      Decides-like (list_any (meets_line leg) lines)
      (λ h. any_in Meets (flat_map line_segments lines) (joined Meets line_segments lines (any_out (λ line. Any Meets (line_segments line)) lines h)))
      (λ h. any_in (λ line. Any Meets (line_segments line)) lines (parted Meets line_segments lines (any_out Meets (flat_map line_segments lines) h)))
      (Decides-list_any (meets_line leg) (λ line. Any Meets (line_segments line)) Decides-line lines)

  pub Decides-shape : (shape : Shape) → Decides (meets_shape leg shape) (MeetsShape leg shape)
  Decides-shape (Points coords) =
      Decides-list_any (meets_coord leg) (λ coord. MeetsSegment leg (point_of coord) (point_of coord)) (λ coord. Decides-segment (point_of coord, point_of coord)) coords
  Decides-shape (Lines lines) = Decides-lines lines
  Decides-shape (Rings rings) = (tested_area_is_met leg rings, met_area_is_tested leg rings)
  Decides-shape Bare = (λ e. let no : ◌≡◌ {A = Bool} false true = e in absurd cc, λ h. absurd h)
