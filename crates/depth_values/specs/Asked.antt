-- The places of areas that hold one of some points.
use Rattle.std.specs.Prelude.{◌≡◌, ◌⊎◌, ◌↔◌, ℕ, true, List, Contains, slice_get, Some}
use Rattle.std.specs.List.{list_any}
use Rattle.plane_geometry.specs.declared.point.Pt.{Pt}
use Rattle.plane_bounds.specs.Inside.{is_inside}
use Rattle.depth_values.specs.DepthArea.{AreaValue, ExtentValue}

-- one of the points lies in or on the area at the place
pub record HoldsAt (points : List Pt) (areas : List AreaValue) (place : ℕ) : Type 0 where
  pub area : AreaValue
  pub there : slice_get areas place ≡ Some area
  pub holds : list_any (λ p. is_inside p area.rings) points ≡ true

-- one of the points lies in or on the rings at a place among extents, and the area at another place has them
pub record HoldsFor (points : List Pt) (extents : List ExtentValue) (at place : ℕ) : Type 0 where
  pub extent : ExtentValue
  pub there : slice_get extents at ≡ Some extent
  pub holds : list_any (λ p. is_inside p extent.rings) points ≡ true
  pub has : Contains extent.places place

-- more places, and no others than those of areas that have such rings
pub record Adds (points : List Pt) (extents : List ExtentValue) (old new : List ℕ) : Type 0 where
  pub kept : (place : ℕ) → Contains old place → Contains new place
  pub sound : (place : ℕ) → Contains new place → Contains old place ⊎ ((at : ℕ) × HoldsFor points extents at place)

-- among them each of those whose rings were asked
pub record AreAsked (points : List Pt) (extents : List ExtentValue) (asked : ℕ → Type 0) (old new : List ℕ)
    : Type 0 where
  pub adds : Adds points extents old new
  pub told : (at place : ℕ) → asked at → HoldsFor points extents at place → Contains new place

-- exactly the places of areas in or on which one of the points lies
abbrev pub AreHolding : List Pt → List AreaValue → List ℕ → Type 0
AreHolding points areas places = (place : ℕ) → Contains places place ↔ HoldsAt points areas place
