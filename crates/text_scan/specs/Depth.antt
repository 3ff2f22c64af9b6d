-- Depths in text: decimals of a unit, in hundredths of it.
use Rattle.std.specs.Prelude.{◌≡◌, ℕ, ◌+◌, ◌-◌, ◌*◌, ◌/◌, ◌^◌, ◌≤◌, ◌⊎◌, Bool, true, false, ◌&&◌, ◌==◌, nat_lt}
use Rattle.std.specs.Prelude.{nat_le, if◌then◌else◌, List, [], ◌∷◌, ◌++◌, length, drop, Option, Some, None, option_map}
use Rattle.std.specs.Prelude.{option_and_then, ℤ, pos, neg_ℤ, ◌+ℤ◌, ◌*ℤ◌, ◌≤ℤ◌, ◌<ℤ◌}
use Rattle.std.specs.List.{prefix_len, take_while}
use Rattle.std.specs.Char.{is_ascii_digit}
use Rattle.std.specs.Str.{all_ascii_digits}
use Rattle.std.specs.Str.Parse.{AllDigits}
use Rattle.text_scan.specs.Number.{value_of}

-- the texts of a sign
abbrev pub SpellsSign : Bool → List ℕ → Type 0
SpellsSign true text = text ≡ 45 ∷ []
SpellsSign false text = (text ≡ []) ⊎ (text ≡ 43 ∷ [])

abbrev pub with_sign : Bool → ℕ → ℤ
with_sign true n = neg_ℤ (pos n)
with_sign false n = pos n

-- the greatest whole number that is at most amount / unit
pub record IsFloor (amount : ℤ) (unit : ℕ) (floor : ℤ) : Type 0 where
  pub at_most : (floor *ℤ pos unit) ≤ℤ amount
  pub greatest : amount <ℤ ((floor +ℤ pos 1) *ℤ pos unit)

-- A sign, up to 6 digits and up to 20 decimals, one digit at least. The depth is the number in hundredths, rounded
-- down: towards the shallower depth.
pub record SpellsDepth (text : List ℕ) (depth : ℤ) : Type 0 where
  pub negative : Bool
  pub sign : List ℕ
  pub whole : List ℕ
  pub decimals : List ℕ
  pub signed : SpellsSign negative sign
  pub whole_digits : AllDigits 10 whole × (length whole ≤ 6)
  pub decimal_digits : AllDigits 10 decimals × (length decimals ≤ 20)
  pub some_digit : 1 ≤ length whole + length decimals
  pub parts : ((text ≡ sign ++ whole) × (decimals ≡ [])) ⊎ (text ≡ sign ++ whole ++ 46 ∷ decimals)
  pub rounded : IsFloor (with_sign negative (100 * value_of (whole ++ decimals))) (10 ^ length decimals) depth

-- ---- as a function

-- what follows the digits at the front
abbrev pub behind_digits : List ℕ → List ℕ
behind_digits text = drop (prefix_len is_ascii_digit text) text

-- the decimals in what follows the digits: nothing, or `.` and digits
unfoldable pub decimals_of : List ℕ → Option (List ℕ)
decimals_of [] = Some []
decimals_of (first ∷ rest) = if first == 46 && all_ascii_digits rest then Some rest else None

-- the digits of a decimal without a sign, before and behind the point
unfoldable pub digits_of : List ℕ → Option (List ℕ × List ℕ)
digits_of text =
    option_and_then (λ decimals. let whole = take_while is_ascii_digit text in
    if nat_le (length whole) 6 && (nat_le (length decimals) 20 && nat_lt 0 (length whole + length decimals))
    then Some (whole, decimals) else None)
    (decimals_of (behind_digits text))

-- the hundredths of a decimal, rounded down
abbrev pub hundredths : Bool → List ℕ × List ℕ → ℤ
hundredths negative digits =
    let amount = 100 * value_of (digits.0 ++ digits.1) in
    let unit = 10 ^ length digits.1 in
    if negative then neg_ℤ (pos ((amount + (unit - 1)) / unit)) else pos (amount / unit)

unfoldable pub depth_of : List ℕ → Option ℤ
depth_of [] = None
depth_of (first ∷ rest) =
    if first == 45 then option_map (hundredths true) (digits_of rest)
    else option_map (hundredths false) (digits_of (if first == 43 then rest else first ∷ rest))
