-- The side of a line.
use Rattle.std.specs.Prelude.{ℤ, ◌-ℤ◌, ◌*ℤ◌}
use Rattle.plane_geometry.specs.declared.point.Pt.{Pt}

-- twice the area of the triangle a, b, c, positive where c lies on the left of the line from a to b
abbrev pub turn : Pt → Pt → Pt → ℤ
turn a b c = ((b.x -ℤ a.x) *ℤ (c.y -ℤ a.y)) -ℤ ((b.y -ℤ a.y) *ℤ (c.x -ℤ a.x))
