-- Numbers among the words of a line.
use Rattle.std.specs.Prelude.{ℕ, ◌≤◌, nat_le, Bool, ◌&&◌, List, length}
use Rattle.std.specs.Str.{all_ascii_digits}
use Rattle.std.specs.Str.Parse.{IsNumeral}

-- 1 to 9 digits, and nothing else
abbrev pub IsShortNumber : List ℕ → Type 0
IsShortNumber text = IsNumeral 10 text × (length text ≤ 9)

-- the same as a test
abbrev pub is_short_number : List ℕ → Bool
is_short_number text = nat_le 1 (length text) && (nat_le (length text) 9 && all_ascii_digits text)
