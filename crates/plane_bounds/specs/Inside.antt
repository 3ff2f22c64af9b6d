-- Whether a point is inside rings, as a function.
use Rattle.std.specs.Prelude.{ℤ, pos, int_le, Bool, ◌&&◌, ◌||◌, ◌==◌, ◌%◌, List, count_by}
use Rattle.std.specs.List.{list_any}
use Rattle.plane_geometry.specs.declared.point.Pt.{Pt}
use Rattle.plane_geometry.specs.Orientation.{turn}
use Rattle.plane_geometry.specs.EvenOdd.{all_segments, crosses}

abbrev pub is_between : ℤ → ℤ → ℤ → Bool
is_between c a b = (int_le a c && int_le c b) || (int_le b c && int_le c a)

-- the point is in the box round a segment's ends, and in line with them
abbrev pub is_on : Pt → Pt × Pt → Bool
is_on p s =
    (is_between p.x s.0.x s.1.x && is_between p.y s.0.y s.1.y)
    && (int_le (turn s.0 s.1 p) (pos 0) && int_le (pos 0) (turn s.0 s.1 p))

-- the point is on the rings, or an odd number of their segments cross the ray from it
abbrev pub is_inside : Pt → List (List Pt) → Bool
is_inside p rings = list_any (is_on p) (all_segments rings) || (count_by (crosses p) (all_segments rings) % 2 == 1)
