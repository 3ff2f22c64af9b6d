-- What depth areas cover in groups, each with a box round it.
use Rattle.std.specs.Prelude.{◌≡◌, ℕ, ◌<◌, length, List, Contains, slice_get, Some}
use Rattle.plane_bounds.specs.declared.bounds.Bounds.{Bounds}
use Rattle.plane_bounds.specs.Bounds.{RingsIn}
use Rattle.depth_values.specs.DepthArea.{ExtentValue}
use Rattle.depth_values.specs.declared.groups.Group.{Group}

-- the rings of the extent at a place are in the box
abbrev pub IsRound : List ExtentValue → Bounds → ℕ → Type 0
IsRound extents bounds place =
    (extent : ExtentValue) → slice_get extents place ≡ Some extent → RingsIn bounds extent.rings

-- the box of the group is round all of its extents
abbrev pub IsGroup : List ExtentValue → Group → Type 0
IsGroup extents group = (place : ℕ) → Contains group.places.items place → IsRound extents group.bounds place

-- a group of these places
pub record IsGroupOf (extents : List ExtentValue) (places : List ℕ) (group : Group) : Type 0 where
  pub those : group.places.items ≡ places
  pub round : IsGroup extents group

-- the place is one of a group
pub record StandsIn (groups : List Group) (place : ℕ) : Type 0 where
  pub group : Group
  pub among : Contains groups group
  pub there : Contains group.places.items place

-- all are groups, and each extent stands in one
pub record AreGrouped (extents : List ExtentValue) (groups : List Group) : Type 0 where
  pub each : (group : Group) → Contains groups group → IsGroup extents group
  pub all : (place : ℕ) → place < length extents → StandsIn groups place
