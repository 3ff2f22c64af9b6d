-- Subfields as bytes (ISO/IEC 8211, user data): each value in its one spelling by its format.
use Rattle.std.specs.Prelude.{ℕ, ℤ, List, [], ◌∷◌, ◌++◌}
use Rattle.std.specs.Int.{w16, w32, to_le_bytes, cast_unsigned}
use Rattle.chart_model.specs.Codes.{UNIT_TERMINATOR}

-- a number of one byte
unfoldable pub b11 : ℕ → List ℕ
b11 number = number ∷ []

-- a number of two bytes, the least significant first
unfoldable pub b12 : ℕ → List ℕ
b12 number = to_le_bytes w16 number

-- a number of four bytes, the least significant first
unfoldable pub b14 : ℕ → List ℕ
b14 number = to_le_bytes w32 number

-- a whole number of four bytes in two's complement, the least significant first
unfoldable pub b24 : ℤ → List ℕ
b24 number = to_le_bytes w32 (cast_unsigned w32 number)

-- a text without a fixed length
unfoldable pub open_text : List ℕ → List ℕ
open_text text = text ++ UNIT_TERMINATOR ∷ []
