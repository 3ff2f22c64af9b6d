-- Whether a leg meets a segment or an area, as tests: no line parts them.
use Rattle.std.specs.Prelude.{ℤ, pos, neg_ℤ, ◌+◌, ◌*◌, ◌%◌, ◌==◌, ◌+ℤ◌, ◌-ℤ◌, ◌*ℤ◌, int_lt, unsigned_abs}
use Rattle.std.specs.Prelude.{Bool, ◌&&◌, ◌||◌, not, List, count_by}
use Rattle.std.specs.List.{list_any}
use Rattle.plane_geometry.specs.declared.point.Pt.{Pt}
use Rattle.plane_geometry.specs.EvenOdd.{all_segments, crosses}
use Rattle.route_geometry.specs.declared.leg.Leg.{Leg}

-- how far it is from p to q in the direction (u, v)
abbrev pub ahead : ℤ → ℤ → Pt → Pt → ℤ
ahead u v p q = (u *ℤ (q.x -ℤ p.x)) +ℤ (v *ℤ (q.y -ℤ p.y))

-- how far the leg's half-widths reach in that direction
abbrev pub reach : Leg → ℤ → ℤ → ℤ
reach leg u v = pos ((unsigned_abs u * leg.w) + (unsigned_abs v * leg.h))

-- in the direction (u, v) both ends of the segment lie farther than that beyond both ends of the leg
abbrev pub is_beyond : Leg → Pt → Pt → ℤ → ℤ → Bool
is_beyond leg c e u v =
    (int_lt (reach leg u v) (ahead u v leg.a c) && int_lt (reach leg u v) (ahead u v leg.b c))
    && (int_lt (reach leg u v) (ahead u v leg.a e) && int_lt (reach leg u v) (ahead u v leg.b e))

-- they do so in that direction or in the opposite one
abbrev pub is_parted : Leg → Pt → Pt → ℤ → ℤ → Bool
is_parted leg c e u v = is_beyond leg c e u v || is_beyond leg c e (neg_ℤ u) (neg_ℤ v)

-- no line parts the widened leg from the segment: none along an axis, none along the leg or the segment
abbrev pub meets_segment : Leg → Pt → Pt → Bool
meets_segment leg c e =
    not ((is_parted leg c e (pos 1) (pos 0) || is_parted leg c e (pos 0) (pos 1))
    || (is_parted leg c e (leg.b.y -ℤ leg.a.y) (leg.a.x -ℤ leg.b.x)
    || is_parted leg c e (e.y -ℤ c.y) (c.x -ℤ e.x)))

-- the leg meets a segment of the rings, or an odd number of their segments cross the ray from its first point
abbrev pub meets_area : Leg → List (List Pt) → Bool
meets_area leg rings =
    list_any (λ s. meets_segment leg s.0 s.1) (all_segments rings)
    || (count_by (crosses leg.a) (all_segments rings) % 2 == 1)
