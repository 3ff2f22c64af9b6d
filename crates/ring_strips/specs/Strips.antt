-- Rings cut into strips by height.
use Rattle.std.specs.Prelude.{◌≡◌, ℤ, ◌≤ℤ◌, int_le, Bool, ◌&&◌, ◌||◌, ◌==◌, ◌%◌, List, All, count_by}
use Rattle.std.specs.List.{list_any}
use Rattle.plane_geometry.specs.declared.point.Pt.{Pt}
use Rattle.plane_geometry.specs.EvenOdd.{crosses}
use Rattle.plane_bounds.specs.Inside.{is_on, is_inside}

-- the heights from low to high, both included, and segments
pub record StripValue : Type 0 where
  pub low : ℤ
  pub high : ℤ
  pub segments : List (Pt × Pt)

-- a place of the segment has one of the heights from low to high
abbrev pub reaches : ℤ → ℤ → Pt × Pt → Bool
reaches low high s = (int_le s.0.y high || int_le s.1.y high) && (int_le low s.0.y || int_le low s.1.y)

-- the point is on one of the segments, or an odd number of them cross the ray from it
abbrev pub is_among : Pt → List (Pt × Pt) → Bool
is_among p segments = list_any (is_on p) segments || (count_by (crosses p) segments % 2 == 1)

-- the point has one of the strip's heights, its borders' among them
pub record IsLevelWith (strip : StripValue) (p : Pt) : Type 0 where
  pub south : strip.low ≤ℤ p.y
  pub north : p.y ≤ℤ strip.high

-- at its heights the strip's segments alone say what is inside the rings
abbrev pub IsStrip : List (List Pt) → StripValue → Type 0
IsStrip rings strip = (p : Pt) → IsLevelWith strip p → is_among p strip.segments ≡ is_inside p rings

abbrev pub AreStrips : List (List Pt) → List StripValue → Type 0
AreStrips rings strips = All (IsStrip rings) strips

-- the strip says of the point whether it is inside the rings that were cut
abbrev pub Tells : Pt → List StripValue → StripValue → Type 0
Tells p strips strip = (rings : List (List Pt)) → AreStrips rings strips → is_among p strip.segments ≡ is_inside p rings
