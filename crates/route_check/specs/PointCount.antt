-- How many points a route has.
use Rattle.std.specs.Prelude.{ℕ}
use Rattle.std.specs.Int.{IsInRange}

-- 2 to 1,000 points
abbrev pub IsPointCount : ℕ → Type 0
IsPointCount n = IsInRange 2 1000 n
