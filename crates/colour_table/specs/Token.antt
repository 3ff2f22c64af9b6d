-- The tokens of colours.
use Rattle.std.specs.Prelude.{◌⊎◌, ℕ, ◌≤◌, nat_le, Bool, ◌&&◌, ◌||◌, List, length, All}
use Rattle.std.specs.Prelude.{Option, Some, None, if◌then◌else◌}
use Rattle.std.specs.Int.{IsInRange}
use Rattle.std.specs.List.{list_all}

-- a capital letter or a digit
abbrev pub IsTokenByte : ℕ → Type 0
IsTokenByte byte = ((65 ≤ byte) × (byte ≤ 90)) ⊎ ((48 ≤ byte) × (byte ≤ 57))

-- one to eight of them
pub record IsToken (text : List ℕ) : Type 0 where
  pub long : IsInRange 1 8 (length text)
  pub spelled : All IsTokenByte text

-- the same as tests
abbrev pub is_token_byte : ℕ → Bool
is_token_byte byte = (nat_le 65 byte && nat_le byte 90) || (nat_le 48 byte && nat_le byte 57)

unfoldable pub is_token : List ℕ → Bool
is_token text = (nat_le 1 (length text) && nat_le (length text) 8) && list_all is_token_byte text

-- the token that a text is, where it is one
abbrev pub token_of : List ℕ → Option (List ℕ)
token_of text = if is_token text then Some text else None
