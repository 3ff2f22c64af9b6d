-- Two sides along one way.
use Rattle.std.specs.Prelude.{ℕ, pos, ◌≤◌, ◌+ℤ◌, ◌*ℤ◌, ◌≤ℤ◌}
use Rattle.route_geometry.specs.declared.slope.Slope.{Slope}

-- t of d equal parts of a way
pub record Part : Type 0 where
  pub d : ℕ
  pub t : ℕ
  pub parts : 1 ≤ d
  pub on_the_way : t ≤ d

-- the part of the way leads to within the side
abbrev pub IsOver : Part → Slope → Type 0
IsOver p f = pos 0 ≤ℤ ((pos p.d *ℤ f.start) +ℤ (pos p.t *ℤ f.step))

-- some part of the way leads to within both sides
abbrev pub BothReached : Slope → Slope → Type 0
BothReached f g = (p : Part) × IsOver p f × IsOver p g
