-- What a view shows, and how it is stretched.
use Rattle.std.specs.Prelude.{ℕ, ◌+◌, ◌-◌, ◌*◌, ◌/◌, ◌≤◌, min, ℤ, ◌+ℤ◌, ◌<ℤ◌, unsigned_abs}

-- from a longitude to another further east, from a latitude to another further north, and some units wide
pub record IsView (west south east north : ℤ) (width : ℕ) : Type 0 where
  pub wide : west <ℤ east
  pub high : south <ℤ north
  pub units : 1 ≤ width

-- the cosine of so many hundredths of a degree in ten-thousandths, rounded down, by Bhaskara's rule: that of d degrees
-- is (32,400 - 4d²) / (32,400 + d²). From 89 degrees on it stays as it is
abbrev pub cosine_at : ℕ → ℕ
cosine_at square = 10000 * (324000000 - 4 * square) / (324000000 + square)

abbrev pub cosine_of : ℕ → ℕ
cosine_of hundredths = cosine_at (min hundredths 8900 * min hundredths 8900)

-- that of the latitude in the middle between two, of which parts of a hundredth of a degree are left out
abbrev pub cosine_between : ℤ → ℤ → ℕ
cosine_between south north = cosine_of (unsigned_abs (south +ℤ north) / 200000)
