-- What the front of a file, with at most one byte more than a limit, says of the whole.
use Rattle.std.proofs.Common.{◌≡◌, ◌∙◌, ℕ, ◌+◌, ◌<◌, ◌≤◌, min, List, length, take, arith, ap}
use Rattle.std.proofs.lemmas.List.{length-take, take_all}
use Rattle.chart_ports.specs.Count.{LAST}

-- a front within the limit is the whole file
pub taken_whole : (limit : ℕ) (bytes taken : List ℕ) → taken ≡ take (min (limit + 1) LAST) bytes → length bytes < LAST → length taken ≤ limit → taken ≡ bytes
taken_whole limit bytes taken e fits short =
    e ∙ take_all (min (limit + 1) LAST) bytes (omega (arith, ap length e, length-take (min (limit + 1) LAST) bytes))

-- a front over the limit comes of a file over the limit
pub taken_long : (limit : ℕ) (bytes taken : List ℕ) → taken ≡ take (min (limit + 1) LAST) bytes → limit < length taken → limit < length bytes
taken_long limit bytes taken e long = omega (arith, ap length e, length-take (min (limit + 1) LAST) bytes)
