-- Numbers of a width, the most significant byte first.
use Rattle.std.specs.Prelude.{ℕ, nat_lt, nat_le, Bool, ◌&&◌, if◌then◌else◌, List, [], ◌∷◌, length, take, drop}
use Rattle.std.specs.Prelude.{Some, None}
use Rattle.std.specs.List.{list_all}
use Rattle.std.specs.Int.{Width, byte_len, to_be_bytes, from_be_bytes}
use Rattle.page_parts.specs.Reader.{Reader}

-- a number of one byte
abbrev pub byte : ℕ → List ℕ
byte value = value ∷ []

-- a number of as many bytes as the width has
abbrev pub number : Width → ℕ → List ℕ
number width value = to_be_bytes width value

-- ---- read

-- whether each is a byte
unfoldable pub are_bytes : List ℕ → Bool
are_bytes numbers = list_all (λ number. nat_lt number 256) numbers

abbrev pub byte_at : Reader ℕ
byte_at [] = None
byte_at (value ∷ rest) = if nat_lt value 256 then Some (value, rest) else None

-- so many numbers from the front
abbrev pub front_at : ℕ → Reader (List ℕ)
front_at size bytes = if nat_le size (length bytes) then Some (take size bytes, drop size bytes) else None

abbrev pub number_at : Width → Reader ℕ
number_at width bytes =
    if nat_le (byte_len width) (length bytes) && are_bytes (take (byte_len width) bytes)
    then Some (from_be_bytes width (take (byte_len width) bytes), drop (byte_len width) bytes)
    else None
