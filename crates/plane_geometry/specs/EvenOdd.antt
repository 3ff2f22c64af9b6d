-- The even-odd rule.
use Rattle.std.specs.Prelude.{◌≡◌, ◌⊎◌, ℕ, ℤ, pos, ◌+ℤ◌, ◌-ℤ◌, ◌*ℤ◌, ◌≤ℤ◌, ◌<ℤ◌, ◌≤◌, int_lt, int_le, ◌%◌, Bool, ◌&&◌}
use Rattle.std.specs.Prelude.{if◌then◌else◌, List, ◌++◌, take, drop}
use Rattle.std.specs.Bool.{xor}
use Rattle.std.specs.List.{zip, flat_map, count_by, Any}
use Rattle.plane_geometry.specs.declared.point.Pt.{Pt}
use Rattle.plane_geometry.specs.Segment.{LiesOnSegment}

-- each point of a ring with the next, and its last with its first
abbrev pub segments : List Pt → List (Pt × Pt)
segments ring = zip ring (drop 1 ring ++ take 1 ring)

-- the segments of all rings
abbrev pub all_segments : List (List Pt) → List (Pt × Pt)
all_segments rings = flat_map segments rings

-- exactly one end of the segment is at most as high as p
abbrev pub straddles : Pt → Pt × Pt → Bool
straddles p (a, b) = xor (int_le a.y p.y) (int_le b.y p.y)

-- x < n / d, for a d that is not 0
abbrev pub int_lt_fraction : ℤ → ℤ → ℤ → Bool
int_lt_fraction x n d = if int_lt (pos 0) d then int_lt (x *ℤ d) n else int_lt n (x *ℤ d)

-- at the height of p the segment has a greater x than p:
-- p.x < a.x + (p.y - a.y) * (b.x - a.x) / (b.y - a.y), over one denominator
abbrev pub passes_beyond : Pt → Pt × Pt → Bool
passes_beyond p (a, b) =
    int_lt_fraction p.x ((a.x *ℤ (b.y -ℤ a.y)) +ℤ ((p.y -ℤ a.y) *ℤ (b.x -ℤ a.x))) (b.y -ℤ a.y)

-- the segment crosses the ray from p to greater x
abbrev pub crosses : Pt → Pt × Pt → Bool
crosses p s = straddles p s && passes_beyond p s

-- the segment from a to b crosses the ray from p to greater x: exactly one of its ends is at most as
-- high as p, and its place at the height of p has a greater x
pub record CrossesRay (p a b : Pt) : Type 0 where
  pub straddles : ((a.y ≤ℤ p.y) × (p.y <ℤ b.y)) ⊎ ((b.y ≤ℤ p.y) × (p.y <ℤ a.y))
  pub d : ℕ
  pub t : ℕ
  pub parts : 1 ≤ d
  pub on_the_way : t ≤ d
  pub at_height : pos d *ℤ (p.y -ℤ a.y) ≡ pos t *ℤ (b.y -ℤ a.y)
  pub beyond : (pos d *ℤ (p.x -ℤ a.x)) <ℤ (pos t *ℤ (b.x -ℤ a.x))

-- p is on a segment of the rings
abbrev pub IsOnRings : Pt → List (List Pt) → Type 0
IsOnRings p rings = Any (λ s. LiesOnSegment p s.0 s.1) (all_segments rings)

-- p is on a segment of the rings, or an odd number of their segments cross the ray from p
abbrev pub IsInside : Pt → List (List Pt) → Type 0
IsInside p rings = IsOnRings p rings ⊎ (count_by (crosses p) (all_segments rings) % 2 ≡ 1)
