-- Which objects of a chart are dangerous.
use Rattle.std.specs.Prelude.{◌≡◌, ◌⊎◌, ℕ, ◌-◌, ◌≤◌, nat_le, ◌==◌, ℤ, ◌≤ℤ◌, int_le, Bool, false, ◌&&◌, ◌||◌, IsTrue}
use Rattle.std.specs.Prelude.{if◌then◌else◌, List, [], ◌∷◌, slice_get, Option, Some, None}
use Rattle.std.specs.Int.{IsInRange}
use Rattle.std.specs.List.{flat_map, enumerate_from}
use Rattle.std.specs.FinMap as finite
use Rattle.chart_model.specs.declared.record.Coord.{Coord}
use Rattle.chart_model.specs.declared.cell.Feature.{Feature}
use Rattle.chart_model.specs.declared.settings.Settings.{Settings}
use Rattle.chart_model.specs.Cell.{CellValue}
use Rattle.chart_model.specs.Codes.{POINT, AREA}
use Rattle.chart_model.specs.State.{StateValue}
use Rattle.area_rings.specs.declared.shape.Shape.{Shape}
use Rattle.area_rings.specs.declared.shape.Shape.TheVariants.{Points, Lines, Rings, Bare}
use Rattle.area_rings.specs.Shape.{shape_of}
use Rattle.depth_values.specs.Codes.{OBSTRN, UWTROC, WRECKS}
use Rattle.depth_values.specs.Safety.{is_unsafe_area}
use Rattle.depth_values.specs.Hazard.{hazard_depth}
use Rattle.route_check.specs.Object.{ObjectValue}

-- the class of soundings (S-57 Appendix A)
abbrev pub SOUNDG : ℕ
SOUNDG = 129

-- an obstruction, an underwater rock or a wreck, that is a point, a line or an area
pub record IsHazard (feature : Feature) : Type 0 where
  pub class : (feature.class ≡ OBSTRN) ⊎ ((feature.class ≡ UWTROC) ⊎ (feature.class ≡ WRECKS))
  pub prim : IsInRange POINT AREA feature.prim

-- an unsafe area, or a hazard whose depth is at most the safety contour
abbrev pub IsDangerous : CellValue → Settings → Feature → Type 0
IsDangerous cell settings feature =
    IsTrue (is_unsafe_area settings.safety_contour feature)
    ⊎ (IsHazard feature × (hazard_depth cell feature ≤ℤ settings.safety_contour))

-- a dangerous feature is one object, of place 0, with the feature's shape
pub record IsWhole (cell : CellValue) (settings : Settings) (feature : Feature) (place : ℕ) (shape : Shape)
    : Type 0 where
  pub placed : place ≡ 0
  pub shaped : shape_of cell feature ≡ Some shape
  pub dangerous : IsDangerous cell settings feature

-- a coordinate of soundings with a depth that is at most the safety depth is an object, a point, whose place is counted
-- from 1 over all coordinates of the feature, those with a depth and those without
pub record IsSounding (cell : CellValue) (settings : Settings) (feature : Feature) (place : ℕ) (shape : Shape)
    : Type 0 where
  pub class : feature.class ≡ SOUNDG
  pub coords : List Coord
  pub points : shape_of cell feature ≡ Some (Points coords)
  pub counted : 1 ≤ place
  pub coord : Coord
  pub there : slice_get coords (place - 1) ≡ Some coord
  pub depth : ℤ
  pub deep : coord.z ≡ Some depth
  pub shallow : depth ≤ℤ settings.safety_depth
  pub alone : shape ≡ Points (coord ∷ [])

-- a dangerous object of a feature: its place and its shape
abbrev pub IsObject : CellValue → Settings → Feature → ℕ → Shape → Type 0
IsObject cell settings feature place shape =
    IsWhole cell settings feature place shape ⊎ IsSounding cell settings feature place shape

-- ---- as tests and lists

abbrev pub is_hazard : Feature → Bool
is_hazard feature =
    ((feature.class == OBSTRN) || ((feature.class == UWTROC) || (feature.class == WRECKS)))
    && (nat_le POINT feature.prim && nat_le feature.prim AREA)

abbrev pub is_dangerous : CellValue → Settings → Feature → Bool
is_dangerous cell settings feature =
    is_unsafe_area settings.safety_contour feature
    || (is_hazard feature && int_le (hazard_depth cell feature) settings.safety_contour)

-- the whole feature as an object, where it has a shape
abbrev pub whole_of : List ℕ → ℕ → Option Shape → List ObjectValue
whole_of key rcid None = []
whole_of key rcid (Some shape) = record { key = key; rcid = rcid; place = 0; shape = shape } ∷ []

-- a hazard as an object, where its depth is at most the safety contour
abbrev pub hazards_of : Settings → List ℕ → CellValue → ℕ → Feature → List ObjectValue
hazards_of settings key cell rcid feature =
    if int_le (hazard_depth cell feature) settings.safety_contour
    then whole_of key rcid (shape_of cell feature) else []

abbrev pub is_shallow : ℤ → Option ℤ → Bool
is_shallow safety_depth None = false
is_shallow safety_depth (Some depth) = int_le depth safety_depth

-- a coordinate at its place as an object, where it is a shallow sounding
abbrev pub sounding_at : List ℕ → ℕ → ℤ → ℕ × Coord → List ObjectValue
sounding_at key rcid safety_depth counted =
    if is_shallow safety_depth counted.1.z
    then record { key = key; rcid = rcid; place = counted.0; shape = Points (counted.1 ∷ []) } ∷ [] else []

-- the shallow soundings of a shape: of a point feature, and of no other
abbrev pub soundings_in : List ℕ → ℕ → ℤ → Option Shape → List ObjectValue
soundings_in key rcid safety_depth None = []
soundings_in key rcid safety_depth (Some (Points coords)) =
    flat_map (sounding_at key rcid safety_depth) (enumerate_from 1 coords)
soundings_in key rcid safety_depth (Some (Lines lines)) = []
soundings_in key rcid safety_depth (Some (Rings rings)) = []
soundings_in key rcid safety_depth (Some Bare) = []

-- the dangerous objects of a feature: itself, or its soundings
abbrev pub objects_at : Settings → List ℕ → CellValue → ℕ → Feature → List ObjectValue
objects_at settings key cell rcid feature =
    if is_dangerous cell settings feature then whole_of key rcid (shape_of cell feature) else (
    if feature.class == SOUNDG then soundings_in key rcid settings.safety_depth (shape_of cell feature) else [])

-- those of every feature of a chart, in the order of the features' names
abbrev pub objects_on : Settings → List ℕ → Option CellValue → List ObjectValue
objects_on settings key None = []
objects_on settings key (Some cell) =
    flat_map (λ entry. objects_at settings key cell entry.0.rcid entry.1) (finite.entries cell.features)

-- those of every chart that is held, in the order of the charts' keys
abbrev pub objects_of : Settings → StateValue → List ObjectValue
objects_of settings state =
    flat_map (λ entry. objects_on settings entry.0 entry.1.chart) (finite.entries state.cells)
