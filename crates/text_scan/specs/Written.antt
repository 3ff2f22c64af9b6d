-- The decimal text of a number.
use Rattle.std.specs.Prelude.{◌≡◌, ℕ, List, [], ◌∷◌, ◌++◌, length, slice_index, ℤ, pos, negsuc, unsigned_abs}
use Rattle.std.specs.Fmt.{signed_decimal}
use Rattle.std.specs.Str.Parse.{IsNumeral, digits_value}

-- the text of a number: std's, of up to 64 digits
abbrev pub decimal_of : ℤ → List ℕ
decimal_of z = signed_decimal z

abbrev pub sign_of : ℤ → List ℕ
sign_of (pos n) = []
sign_of (negsuc n) = 45 ∷ []

-- `-` where the number is below 0, and the digits of its size, of which the first isn't 0 unless it is the only one
pub record IsDecimal (text : List ℕ) (z : ℤ) : Type 0 where
  pub digits : List ℕ
  pub whole : text ≡ sign_of z ++ digits
  pub numeral : IsNumeral 10 digits
  pub value : digits_value 10 digits ≡ unsigned_abs z
  pub shortest : slice_index digits 0 ≡ 48 → length digits ≡ 1
