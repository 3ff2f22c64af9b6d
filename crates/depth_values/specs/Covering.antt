-- Which areas cover what.
use Rattle.std.specs.Prelude.{◌≡◌, ℕ, ◌<◌, length, List, [], map, All, Contains, slice_get, slice_index_or, Some}
use Rattle.plane_geometry.specs.declared.point.Pt.{Pt}
use Rattle.depth_values.specs.DepthArea.{AreaValue, ExtentValue}
use Rattle.depth_values.specs.declared.depth_area.DepthArea.{DepthArea}

-- the rings at a place among some extents
abbrev pub rings_at : List ExtentValue → ℕ → List (List Pt)
rings_at extents place = slice_index_or (map (λ extent. extent.rings) extents) place []

-- areas with the rings that they cover
abbrev pub value_of : List ExtentValue → DepthArea → AreaValue
value_of extents area = record { name = area.name; d1 = area.d1; rings = rings_at extents area.extent }

abbrev pub values_of : List ExtentValue → List DepthArea → List AreaValue
values_of extents areas = map (value_of extents) areas

-- the area at the place has just these rings
pub record Covers (areas : List AreaValue) (extent : ExtentValue) (place : ℕ) : Type 0 where
  pub area : AreaValue
  pub there : slice_get areas place ≡ Some area
  pub same : area.rings ≡ extent.rings

-- the place is one of those of an extent
pub record IsCovered (extents : List ExtentValue) (place : ℕ) : Type 0 where
  pub extent : ExtentValue
  pub among : Contains extents extent
  pub there : Contains extent.places place

-- at the places of an extent are areas that have its rings, and each area is at such a place
pub record AreShared (areas : List AreaValue) (extents : List ExtentValue) : Type 0 where
  pub each : (extent : ExtentValue) (place : ℕ) → Contains extents extent → Contains extent.places place →
      Covers areas extent place
  pub all : (place : ℕ) → place < length areas → IsCovered extents place

-- what each area covers is there, and has the area's place
pub record AreCovering (extents : List ExtentValue) (areas : List DepthArea) : Type 0 where
  pub within : All (λ area. area.extent < length extents) areas
  pub shared : AreShared (values_of extents areas) extents
