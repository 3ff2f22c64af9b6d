-- The records that a save copies behind its checkpoint.
use Rattle.std.specs.Prelude.{ℕ, List, ◌∷◌, ◌++◌, length, flat_map}
use Rattle.byteorder.specs.Endian.{big_bytes}

-- a record that counts: an open gate, the body's length in four bytes, the body
abbrev pub record_of : List ℕ → List ℕ
record_of body = 1 ∷ (big_bytes 4 (length body) ++ body)

-- records with these bodies, one behind the other
unfoldable pub records_of : List (List ℕ) → List ℕ
records_of bodies = flat_map record_of bodies
