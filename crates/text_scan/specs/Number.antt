-- Whole numbers in text.
use Rattle.std.specs.Prelude.{◌≡◌, ℕ, ◌≤◌, ◌⊎◌, ◌&&◌, ◌==◌, nat_lt, nat_le, if◌then◌else◌, List, [], ◌∷◌, length}
use Rattle.std.specs.Prelude.{Option, Some, None, option_map, ℤ, pos, neg_ℤ}
use Rattle.std.specs.Str.{all_ascii_digits}
use Rattle.std.specs.Str.Parse.{IsNumeral, digits_value}

-- 1 to 18 digits, and nothing else
abbrev pub IsNumber : List ℕ → Type 0
IsNumber text = IsNumeral 10 text × (length text ≤ 18)

-- the number that the digits write
abbrev pub value_of : List ℕ → ℕ
value_of digits = digits_value 10 digits

-- the number that a text is, where it is one
unfoldable pub number_of : List ℕ → Option ℕ
number_of text =
    if nat_lt 0 (length text) && (nat_le (length text) 18 && all_ascii_digits text) then Some (value_of text) else None

-- a number, which may have `-` before it
abbrev pub SpellsSigned : List ℕ → ℤ → Type 0
SpellsSigned text z =
    (IsNumber text × (z ≡ pos (value_of text)))
    ⊎ ((digits : List ℕ) × (text ≡ 45 ∷ digits) × IsNumber digits × (z ≡ neg_ℤ (pos (value_of digits))))

unfoldable pub signed_of : List ℕ → Option ℤ
signed_of [] = None
signed_of (first ∷ rest) =
    if first == 45 then option_map (λ n. neg_ℤ (pos n)) (number_of rest)
    else option_map (λ n. pos n) (number_of (first ∷ rest))
