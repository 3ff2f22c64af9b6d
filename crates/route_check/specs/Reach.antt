-- The box that a widened leg is in.
use Rattle.std.specs.Prelude.{pos, ◌+ℤ◌, ◌-ℤ◌}
use Rattle.std.specs.Int.{int_min, int_max}
use Rattle.plane_bounds.specs.declared.bounds.Bounds.{Bounds}
use Rattle.route_geometry.specs.declared.leg.Leg.{Leg}

-- the least box of the leg's two ends, widened by w in x and by h in y on both sides
abbrev pub reach_of : Leg → Bounds
reach_of leg = record {
  x0 = int_min leg.a.x leg.b.x -ℤ pos leg.w;
  y0 = int_min leg.a.y leg.b.y -ℤ pos leg.h;
  x1 = int_max leg.a.x leg.b.x +ℤ pos leg.w;
  y1 = int_max leg.a.y leg.b.y +ℤ pos leg.h;
}
