-- Points on a segment.
use Rattle.std.specs.Prelude.{◌≡◌, ◌⊎◌, ℕ, ℤ, pos, ◌-ℤ◌, ◌*ℤ◌, ◌≤ℤ◌, ◌≤◌}
use Rattle.plane_geometry.specs.declared.point.Pt.{Pt}

-- p is the place of the closed segment from a to b that t of d equal parts of the way lead to
pub record LiesOnSegment (p a b : Pt) : Type 0 where
  pub d : ℕ
  pub t : ℕ
  pub parts : 1 ≤ d
  pub on_the_way : t ≤ d
  pub at_x : pos d *ℤ (p.x -ℤ a.x) ≡ pos t *ℤ (b.x -ℤ a.x)
  pub at_y : pos d *ℤ (p.y -ℤ a.y) ≡ pos t *ℤ (b.y -ℤ a.y)

-- a coordinate is one of two or lies between them
abbrev pub IsBetween : ℤ → ℤ → ℤ → Type 0
IsBetween c a b = ((a ≤ℤ c) × (c ≤ℤ b)) ⊎ ((b ≤ℤ c) × (c ≤ℤ a))

-- p lies in the box of which a and b are opposite corners
pub record IsInBox (p a b : Pt) : Type 0 where
  pub across : IsBetween p.x a.x b.x
  pub along : IsBetween p.y a.y b.y
