-- Numbers far from the end of 64 bits, so that sums of a few of them fit.
use Rattle.std.specs.Prelude.{ℤ, ◌+ℤ◌, ◌<◌, ◌^◌, unsigned_abs}

-- the values at both ends of a way
pub record IsBoundedSlope (start step : ℤ) : Type 0 where
  pub at_start : unsigned_abs start < 2 ^ 40
  pub at_end : unsigned_abs (start +ℤ step) < 2 ^ 40

-- the values where each of two ways begins or ends
pub record IsBoundedSide (start leg segment : ℤ) : Type 0 where
  pub at_start : unsigned_abs start < 2 ^ 40
  pub at_leg : unsigned_abs (start +ℤ leg) < 2 ^ 40
  pub at_segment : unsigned_abs (start +ℤ segment) < 2 ^ 40
  pub at_both : unsigned_abs ((start +ℤ leg) +ℤ segment) < 2 ^ 40
