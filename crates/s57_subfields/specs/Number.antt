-- Unsigned numbers: binary, or digits in a text.
use Rattle.std.specs.Prelude.{ℕ, ℤ, pos, negsuc, ◌&&◌, nat_lt, nat_le, if◌then◌else◌}
use Rattle.std.specs.Prelude.{List, length, Option, Some, None}
use Rattle.std.specs.Str.{all_ascii_digits}
use Rattle.std.specs.Str.Parse.{digits_value}
use Rattle.iso8211_records.specs.declared.value.Value.{Value}
use Rattle.iso8211_records.specs.declared.value.Value.TheVariants.{Number, Text, Bits}

-- the greatest numbers of one byte, of two and of four
abbrev pub ONE_BYTE : ℕ
ONE_BYTE = 255

abbrev pub TWO_BYTES : ℕ
TWO_BYTES = 65535

abbrev pub FOUR_BYTES : ℕ
FOUR_BYTES = 4294967295

-- a number that isn't negative, where it is at most so much
unfoldable pub natural_up_to : ℕ → ℤ → Option ℕ
natural_up_to most (pos n) = if nat_le n most then Some n else None
natural_up_to most (negsuc n) = None

-- the number that one or more digits write, where it is at most so much
unfoldable pub digits_up_to : ℕ → List ℕ → Option ℕ
digits_up_to most text =
    if nat_lt 0 (length text) && (all_ascii_digits text && nat_le (digits_value 10 text) most)
    then Some (digits_value 10 text) else None

-- the number that a value is, where it is a binary number or digits, and at most so much
unfoldable pub number_up_to : ℕ → Value → Option ℕ
number_up_to most (Number number) = natural_up_to most number
number_up_to most (Text text) = digits_up_to most text
number_up_to most (Bits bits) = None
