-- What is told of areas.
use Rattle.std.proofs.Common.{◌≡◌, ℕ, ℤ, List, [], ◌∷◌, map, refl, ap}
use Rattle.std.specs.Prelude.{◌||◌, Bool, int_le}
use Rattle.std.specs.List.{list_any, filter_map}
use Rattle.std.specs.List.Sorted.{IsStrictlyIncreasing}
use Rattle.std.proofs.lemmas.List.Kept.{AllPairs-from_increasing}
use Rattle.chart_model.specs.declared.name.Name.{Name}
use Rattle.plane_geometry.specs.declared.point.Pt.{Pt}
use Rattle.plane_bounds.specs.Inside.{is_inside}
use Rattle.depth_values.specs.DepthArea.{AreaValue}
use Rattle.depth_values.specs.declared.depth_area.AreaMark.{AreaMark}
use Rattle.depth_values.specs.Asked.{AreHolding}
use Rattle.depth_values.specs.Marks.{mark_of, mark_at}
use Rattle.depth_values.specs.Under.{areas_holding}
use Rattle.depth_values.proofs.Rising.{picked_all}

abbrev holds : List Pt → AreaValue → Bool
holds points area = list_any (λ p. is_inside p area.rings) points

-- at the places of the areas that hold one of the points stand those areas
pub marks_all : (points : List Pt) (areas : List AreaValue) (places : List ℕ) → AreHolding points areas places → IsStrictlyIncreasing places
    → filter_map (mark_at areas) places ≡ map mark_of (areas_holding points areas)
marks_all points areas places held rising =
    picked_all mark_of (holds points) areas places (AllPairs-from_increasing places rising)
    (λ k c. let q = (held k).0 c in record { x = q.area; there = q.there; passes = q.holds })
    (λ k q. (held k).1 (record { area = q.x; there = q.there; holds = q.passes }))

pub names_told : (areas : List AreaValue) → map (λ (mark : AreaMark). mark.name) (map mark_of areas) ≡ map (λ (area : AreaValue). area.name) areas
names_told [] = refl
names_told (area ∷ areas) = ap (λ (names : List Name). area.name ∷ names) (names_told areas)

pub depths_told : (areas : List AreaValue) → map (λ (mark : AreaMark). mark.d1) (map mark_of areas) ≡ map (λ (area : AreaValue). area.d1) areas
depths_told [] = refl
depths_told (area ∷ areas) = ap (λ (depths : List ℤ). area.d1 ∷ depths) (depths_told areas)

pub safe_told : (contour : ℤ) (areas : List AreaValue) → list_any (λ (mark : AreaMark). int_le contour mark.d1) (map mark_of areas) ≡ list_any (λ (area : AreaValue). int_le contour area.d1) areas
safe_told contour [] = refl
safe_told contour (area ∷ areas) = ap (λ (b : Bool). int_le contour area.d1 || b) (safe_told contour areas)
