-- Signed numbers: binary, or digits in a text.
use Rattle.std.specs.Prelude.{ℕ, ℤ, pos, ◌*ℤ◌, unsigned_abs, nat_le, if◌then◌else◌}
use Rattle.std.specs.Prelude.{Option, Some, None, option_map}
use Rattle.iso8211_records.specs.declared.value.Value.{Value}
use Rattle.iso8211_records.specs.declared.value.Value.TheVariants.{Number, Text, Bits}
use Rattle.s57_subfields.specs.Number.{digits_up_to}

-- a number from -n to n
unfoldable pub whole_within : ℕ → ℤ → Option ℤ
whole_within n z = if nat_le (unsigned_abs z) n then Some z else None

-- the number that a value is, where it is a binary number or digits, from -n to n; digits have no sign
unfoldable pub number_within : ℕ → Value → Option ℤ
number_within n (Number number) = whole_within n number
number_within n (Text text) = option_map pos (digits_up_to n text)
number_within n (Bits bits) = None

-- the greatest latitude and the greatest longitude, in degrees times 10,000,000
abbrev pub LATITUDE : ℕ
LATITUDE = 900000000

abbrev pub LONGITUDE : ℕ
LONGITUDE = 1800000000

-- a sounding's depth in centimetres: 10 times a number from -999,999 to 999,999
unfoldable pub depth_in : Value → Option ℤ
depth_in value = option_map (λ decimetres. decimetres *ℤ pos 10) (number_within 999999 value)
