-- Texts of decimal digits.
use Rattle.std.specs.Prelude.{ℕ, ◌+◌, ◌-◌, ◌*◌, List, [], ◌∷◌, IsTrue, if◌then◌else◌}
use Rattle.std.specs.Char.{is_ascii_digit}
use Rattle.std.specs.List.{list_all}

-- each byte is a decimal digit
unfoldable pub AreDigits : List ℕ → Type 0
AreDigits text = IsTrue (list_all is_ascii_digit text)

-- what a byte weighs in a text of at most nine bytes: a digit its value, and any other more than nine digits do
abbrev pub weight : ℕ → ℕ
weight byte = if is_ascii_digit byte then byte - 48 else 1000000000

-- the sum of a number and of what the bytes behind it weigh, each ten times as much as the next
unfoldable pub weight_sum : ℕ → List ℕ → ℕ
weight_sum number [] = number
weight_sum number (byte ∷ bytes) = weight_sum (10 * number + weight byte) bytes
