-- What a widened leg meets.
use Rattle.std.specs.Prelude.{◌≡◌, ℕ, ℤ, pos, ◌*◌, ◌≤◌, ◌+ℤ◌, ◌-ℤ◌, ◌*ℤ◌, unsigned_abs}
use Rattle.plane_geometry.specs.declared.point.Pt.{Pt}
use Rattle.route_geometry.specs.declared.leg.Leg.{Leg}

-- d times the coordinate to which t of d equal parts of the way from a to b lead
abbrev pub place : ℕ → ℕ → ℤ → ℤ → ℤ
place d t a b = (pos d *ℤ a) +ℤ (pos t *ℤ (b -ℤ a))

-- d times how far t of d parts of the way from a to b and s of d parts of the way from c to e lead apart
abbrev pub apart : ℕ → ℕ → ℕ → ℤ → ℤ → ℤ → ℤ → ℕ
apart d t s a b c e = unsigned_abs (place d t a b -ℤ place d s c e)

-- a point of the leg, to which t of d parts of its way lead, and a point of the segment from c to e, to
-- which s of d parts of its way lead, differ by at most the leg's w in x and at most its h in y
pub record MeetsSegment (leg : Leg) (c e : Pt) : Type 0 where
  pub d : ℕ
  pub t : ℕ
  pub s : ℕ
  pub parts : 1 ≤ d
  pub on_leg : t ≤ d
  pub on_segment : s ≤ d
  pub near_x : apart d t s leg.a.x leg.b.x c.x e.x ≤ d * leg.w
  pub near_y : apart d t s leg.a.y leg.b.y c.y e.y ≤ d * leg.h

-- a point of the leg, to which t of d parts of its way lead, differs from p by at most the leg's w in x
-- and at most its h in y
pub record MeetsPoint (leg : Leg) (p : Pt) : Type 0 where
  pub d : ℕ
  pub t : ℕ
  pub parts : 1 ≤ d
  pub on_leg : t ≤ d
  pub near_x : unsigned_abs (place d t leg.a.x leg.b.x -ℤ (pos d *ℤ p.x)) ≤ d * leg.w
  pub near_y : unsigned_abs (place d t leg.a.y leg.b.y -ℤ (pos d *ℤ p.y)) ≤ d * leg.h

-- a leg of the same way that is at least as wide
pub record IsWider (leg wide : Leg) : Type 0 where
  pub a : wide.a ≡ leg.a
  pub b : wide.b ≡ leg.b
  pub w : leg.w ≤ wide.w
  pub h : leg.h ≤ wide.h
