-- Numbers among the words.
use Rattle.std.specs.Prelude.{◌≡◌, ℕ, nat_lt, nat_le, Bool, not, ◌&&◌, ◌==◌, if◌then◌else◌}
use Rattle.std.specs.Prelude.{List, length, slice_index, Option, Some, None}
use Rattle.std.specs.Str.{all_ascii_digits}
use Rattle.std.specs.Str.Parse.{IsNumeral, digits_value}

-- the text is digits, and the first of them is 0 only where it stands alone
pub record IsNumber (text : List ℕ) : Type 0 where
  pub digits : IsNumeral 10 text
  pub shortest : slice_index text 0 ≡ 48 → length text ≡ 1

-- the text is the digits of n
abbrev pub SpellsNumber : List ℕ → ℕ → Type 0
SpellsNumber text n = IsNumber text × (n ≡ digits_value 10 text)

-- whether a text is the digits of a number
abbrev pub is_number : List ℕ → Bool
is_number text =
    nat_lt 0 (length text) && (all_ascii_digits text && not (slice_index text 0 == 48 && nat_lt 1 (length text)))

-- the number that a text is, where it is one from `low` to `high`
unfoldable pub number_from_to : ℕ → ℕ → List ℕ → Option ℕ
number_from_to low high text =
    if is_number text && (nat_le low (digits_value 10 text) && nat_le (digits_value 10 text) high)
    then Some (digits_value 10 text) else None
