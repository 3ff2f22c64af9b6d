-- What a line of a file of colours is.
use Rattle.std.specs.Prelude.{◌≡◌, ℕ, ◌≤◌, nat_le, if◌then◌else◌, List, [], ◌∷◌, Option, Some, None, option_and_then}
use Rattle.std.specs.List.{join_with_byte}
use Rattle.text_scan.specs.Number.{IsNumber, value_of, number_of}
use Rattle.text_lines.specs.Lines.{IsSilent, words_of}
use Rattle.colour_table.specs.Token.{IsToken, token_of}
use Rattle.colour_table.specs.declared.swatch.Colour.{Colour}
use Rattle.colour_table.specs.declared.swatch.Swatch.{Swatch}

-- the digits write how much of red, green or blue there is
pub record SpellsIntensity (digits : List ℕ) (n : ℕ) : Type 0 where
  pub number : IsNumber digits
  pub value : n ≡ value_of digits
  pub range : n ≤ 255

-- the line is the token and the digits of red, green and blue, parted by single spaces
pub record Spells (line : List ℕ) (swatch : Swatch) : Type 0 where
  pub red_digits : List ℕ
  pub green_digits : List ℕ
  pub blue_digits : List ℕ
  pub parted : line ≡ join_with_byte 32 (swatch.token ∷ red_digits ∷ green_digits ∷ blue_digits ∷ [])
  pub token : IsToken swatch.token
  pub red : SpellsIntensity red_digits swatch.colour.red
  pub green : SpellsIntensity green_digits swatch.colour.green
  pub blue : SpellsIntensity blue_digits swatch.colour.blue

-- a line that says something and is no colour under a token
pub record IsBad (line : List ℕ) : Type 0 where
  pub speaks : ¬ IsSilent line
  pub no_swatch : (swatch : Swatch) → ¬ Spells line swatch

-- ---- as a function

abbrev pub in_range : ℕ → Option ℕ
in_range n = if nat_le n 255 then Some n else None

abbrev pub intensity_of : List ℕ → Option ℕ
intensity_of digits = option_and_then in_range (number_of digits)

-- a colour, where each of its parts is there
abbrev pub colour_with : Option ℕ → Option ℕ → Option ℕ → Option Colour
colour_with (Some red) (Some green) (Some blue) = Some (record { red = red; green = green; blue = blue })
colour_with (Some red) (Some green) None = None
colour_with (Some red) None blue = None
colour_with None green blue = None

-- a colour under its token, where both are there
abbrev pub swatch_with : Option (List ℕ) → Option Colour → Option Swatch
swatch_with (Some token) (Some colour) = Some (record { token = token; colour = colour })
swatch_with (Some token) None = None
swatch_with None colour = None

-- the colour under its token that words are
unfoldable pub swatch_in : List (List ℕ) → Option Swatch
swatch_in [] = None
swatch_in (token ∷ []) = None
swatch_in (token ∷ red ∷ []) = None
swatch_in (token ∷ red ∷ green ∷ []) = None
swatch_in (token ∷ red ∷ green ∷ blue ∷ []) =
    swatch_with (token_of token) (colour_with (intensity_of red) (intensity_of green) (intensity_of blue))
swatch_in (token ∷ red ∷ green ∷ blue ∷ other ∷ more) = None

-- the colour under its token that a line is
abbrev pub swatch_of : List ℕ → Option Swatch
swatch_of line = swatch_in (words_of line)
