-- The depth over a wreck, a rock or an obstruction, in centimetres.
use Rattle.std.specs.Prelude.{ℕ, ℤ, pos, negsuc, ◌≤ℤ◌, unsigned_abs}
use Rattle.std.specs.Prelude.{nat_le, Bool, false, ◌&&◌, ◌||◌, ◌==◌, if◌then◌else◌, is_none}
use Rattle.std.specs.Prelude.{List, [], ◌∷◌, All, codes, Option, Some, None, option_and_then, unwrap_or}
use Rattle.std.specs.List.{Contains}
use Rattle.chart_model.specs.declared.cell.Feature.{Feature}
use Rattle.chart_model.specs.Answers.{first_of, when}
use Rattle.chart_model.specs.Cell.{CellValue}
use Rattle.area_rings.specs.declared.shape.Shape.{Shape}
use Rattle.area_rings.specs.Shape.{shape_of}
use Rattle.depth_values.specs.Codes.{OBSTRN, WRECKS, CATOBS, CATWRK, EXPSOU, VALSOU, WATLEV}
use Rattle.depth_values.specs.Attributes.{depth_at, has_value}
use Rattle.depth_values.specs.DepthArea.{AreaValue}
use Rattle.depth_values.specs.Under.{areas_of, least_among, is_safe_among}

-- one of the numbers, and none is less
pub record IsLeast (numbers : List ℤ) (n : ℤ) : Type 0 where
  pub among : Contains numbers n
  pub none_less : All (λ other. n ≤ℤ other) numbers

-- a depth that a sounding can have: up to 9,999,999 either way
abbrev pub sounding_depth : ℤ → Option ℤ
sounding_depth depth = if nat_le (unsigned_abs depth) 9999999 then Some depth else None

-- value of sounding
abbrev pub sounding_of : Feature → Option ℤ
sounding_of feature = option_and_then sounding_depth (depth_at feature VALSOU)

-- water level effect
abbrev pub has_watlev : List ℕ → Feature → Bool
has_watlev value feature = has_value feature WATLEV value

-- exposition of sounding
abbrev pub has_expsou : List ℕ → Feature → Bool
has_expsou value feature = has_value feature EXPSOU value

-- a wreck of a category
abbrev pub is_wreck : List ℕ → Feature → Bool
is_wreck category feature = (feature.class == WRECKS) && has_value feature CATWRK category

-- an obstruction of a category
abbrev pub is_obstruction : List ℕ → Feature → Bool
is_obstruction category feature = (feature.class == OBSTRN) && has_value feature CATOBS category

-- always under water, and not less deep than the depths around it: within their range, or deeper
abbrev pub lies_at_bottom : Feature → Bool
lies_at_bottom feature =
    has_watlev (codes "3") feature && (has_expsou (codes "1") feature || has_expsou (codes "3") feature)

-- the least d1 of those areas that are under the feature
abbrev pub depth_among : List AreaValue → CellValue → Feature → Option ℤ
depth_among areas cell feature = option_and_then (least_among areas) (shape_of cell feature)

-- the least d1 of the areas under a feature of a shape, where it lies at their bottom
abbrev pub depth_below : List AreaValue → Option Shape → Feature → Option ℤ
depth_below areas shape feature =
    if lies_at_bottom feature then option_and_then (least_among areas) shape else None

-- what is taken of a hazard of no known depth, by its categories and then by the water level
abbrev pub assumed_depths : Feature → List (Option ℤ)
assumed_depths feature =
    when (is_wreck (codes "1") feature) (pos 2010)
    ∷ when (is_wreck (codes "2") feature) (pos 0)
    ∷ when (is_wreck (codes "4") feature || is_wreck (codes "5") feature) (negsuc 1499)
    ∷ when (is_obstruction (codes "6") feature) (pos 1)
    ∷ when (has_watlev (codes "3") feature) (pos 1)
    ∷ when (has_watlev (codes "5") feature) (pos 0)
    ∷ []

-- and of all others: they dry 15 metres
abbrev pub assumed_depth : Feature → ℤ
assumed_depth feature = unwrap_or (first_of (assumed_depths feature)) (negsuc 1499)

-- the areas under it are asked for the depth of a hazard that has none of its own and lies at their bottom
abbrev pub asks_areas : Feature → Bool
asks_areas feature = is_none (sounding_of feature) && lies_at_bottom feature

-- the first of these that there is: its own depth, that of the areas under it, an assumed one
abbrev pub first_depth : Feature → Option ℤ → ℤ
first_depth feature below =
    unwrap_or (first_of (sounding_of feature ∷ below ∷ assumed_depths feature)) (negsuc 1499)

-- by some depth areas and a shape
abbrev pub hazard_depth_by : List AreaValue → Option Shape → Feature → ℤ
hazard_depth_by areas shape feature = first_depth feature (depth_below areas shape feature)

-- by the depth areas of the cell and the shape that the feature has there
abbrev pub hazard_depth : CellValue → Feature → ℤ
hazard_depth cell feature = hazard_depth_by (areas_of cell) (shape_of cell feature) feature

-- ---- a safe area under a feature

abbrev pub is_safe_at : List AreaValue → ℤ → Option Shape → Bool
is_safe_at areas contour None = false
is_safe_at areas contour (Some shape) = is_safe_among areas contour shape

-- a depth area or a dredged area of the cell that is safe is under the feature
abbrev pub lies_in_safe_area : CellValue → ℤ → Feature → Bool
lies_in_safe_area cell contour feature = is_safe_at (areas_of cell) contour (shape_of cell feature)
