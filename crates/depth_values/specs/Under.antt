-- The depth areas under an object.
use Rattle.std.specs.Prelude.{ℤ, int_le, Bool, ◌&&◌, ◌||◌, ◌==◌, if◌then◌else◌, List, [], map, filter}
use Rattle.std.specs.Prelude.{Option, Some, None, option_map}
use Rattle.std.specs.List.{list_any, flat_map, filter_map, fold}
use Rattle.std.specs.Int.{int_min}
use Rattle.std.specs.FinMap as finite
use Rattle.chart_model.specs.declared.name.Name.{Name}
use Rattle.chart_model.specs.declared.cell.Feature.{Feature}
use Rattle.chart_model.specs.Cell.{CellValue}
use Rattle.chart_model.specs.Codes.{AREA}
use Rattle.plane_geometry.specs.declared.point.Pt.{Pt}
use Rattle.area_rings.specs.declared.shape.Shape.{Shape}
use Rattle.area_rings.specs.declared.shape.Shape.TheVariants.{Points, Lines, Rings, Bare}
use Rattle.area_rings.specs.Edge.{point_of}
use Rattle.area_rings.specs.Shape.{rings_of}
use Rattle.depth_values.specs.Codes.{DEPARE, DRGARE}
use Rattle.depth_values.specs.Area.{d1_of}
use Rattle.plane_bounds.specs.Inside.{is_inside}
use Rattle.depth_values.specs.DepthArea.{AreaValue}

-- an area of one of the two classes
abbrev pub is_depth_area : Feature → Bool
is_depth_area feature = (feature.prim == AREA) && ((feature.class == DEPARE) || (feature.class == DRGARE))

-- all points of a shape
abbrev pub points_in : Shape → List Pt
points_in (Points coords) = map point_of coords
points_in (Lines lines) = flat_map (λ line. line) lines
points_in (Rings rings) = flat_map (λ ring. ring) rings
points_in Bare = []

-- the depth area that the feature of a name is, where it is one and has rings
abbrev pub area_at : CellValue → Name × Feature → Option AreaValue
area_at cell entry =
    if is_depth_area entry.1
    then option_map (λ rings. record { name = entry.0; d1 = d1_of entry.1; rings = rings })
    (rings_of cell entry.1.pointers)
    else None

-- the depth areas of the cell, in the order of their names: every feature is looked at
abbrev pub areas_of : CellValue → List AreaValue
areas_of cell = filter_map (area_at cell) (finite.entries cell.features)

-- the areas in or on which one of the points lies
abbrev pub areas_holding : List Pt → List AreaValue → List AreaValue
areas_holding points areas = filter (λ area. list_any (λ p. is_inside p area.rings) points) areas

abbrev pub names_among : List AreaValue → Shape → List Name
names_among areas shape = map (λ area. area.name) (areas_holding (points_in shape) areas)

abbrev pub areas_under : CellValue → Shape → List Name
areas_under cell shape = names_among (areas_of cell) shape

-- ---- the least depth of these areas

abbrev pub lesser : Option ℤ → ℤ → Option ℤ
lesser None n = Some n
lesser (Some least) n = Some (int_min least n)

-- the least of the numbers, where there is one
abbrev pub least : List ℤ → Option ℤ
least numbers = fold lesser None numbers

abbrev pub least_among : List AreaValue → Shape → Option ℤ
least_among areas shape = least (map (λ area. area.d1) (areas_holding (points_in shape) areas))

-- ---- a safe area among them

-- one of the areas in or on which a point of the shape lies is the safety contour deep or more
abbrev pub is_safe_among : List AreaValue → ℤ → Shape → Bool
is_safe_among areas contour shape = list_any (λ area. int_le contour area.d1) (areas_holding (points_in shape) areas)
