-- Coordinates: longitude and latitude in degrees times 10,000,000, and for soundings a depth in centimetres.
use Rattle.std.specs.Prelude.{ℕ, zero, suc, ◌%◌, ◌==◌, nat_le, ℤ, unsigned_abs, Bool, true, ◌&&◌, ◌||◌}
use Rattle.std.specs.Prelude.{List, [], ◌∷◌, ◌++◌, Option, Some, None, is_some, is_none}
use Rattle.std.specs.Int.{w32, cast_signed, cast_unsigned}
use Rattle.std.specs.List.{list_all}
use Rattle.chart_model.specs.declared.record.Coord.{Coord}
use Rattle.page_parts.specs.Reader.{Reader, seen_as, that, then_at}
use Rattle.page_parts.specs.Numbers.{byte, number, number_at}
use Rattle.page_parts.specs.Lists.{counted_list, counted_list_at}

-- a whole number of four bytes in two's complement
unfoldable pub signed_number : ℤ → List ℕ
signed_number value = number w32 (cast_unsigned w32 value)

-- a flag, which is 0, or 1 and followed by the depth
unfoldable pub depth : Option ℤ → List ℕ
depth None = byte 0
depth (Some value) = byte 1 ++ signed_number value

unfoldable pub coord : Coord → List ℕ
coord value = signed_number value.x ++ signed_number value.y ++ depth value.z

unfoldable pub coords : List Coord → List ℕ
coords values = counted_list coord values

-- ---- read

unfoldable pub signed_number_at : Reader ℤ
signed_number_at bytes = seen_as (cast_signed w32) (number_at w32) bytes

abbrev pub with_depth : ℤ → Option ℤ
with_depth value = Some value

unfoldable pub depth_at : Reader (Option ℤ)
depth_at [] = None
depth_at (zero ∷ rest) = Some (None, rest)
depth_at (suc zero ∷ rest) = seen_as with_depth signed_number_at rest
depth_at (suc (suc more) ∷ rest) = None

-- a whole number of decimetres from -999,999 to 999,999
abbrev pub is_depth : ℤ → Bool
is_depth value = nat_le (unsigned_abs value) 9999990 && unsigned_abs value % 10 == 0

abbrev pub is_optional_depth : Option ℤ → Bool
is_optional_depth None = true
is_optional_depth (Some value) = is_depth value

-- on the globe, and with a depth that can be one where there is one
abbrev pub is_coord : Coord → Bool
is_coord value =
    nat_le (unsigned_abs value.x) 1800000000 && nat_le (unsigned_abs value.y) 900000000 && is_optional_depth value.z

abbrev pub coord_of : ℤ × (ℤ × Option ℤ) → Coord
coord_of fields = record { x = fields.0; y = fields.1.0; z = fields.1.1 }

unfoldable pub coord_at : Reader Coord
coord_at bytes = that is_coord (seen_as coord_of (then_at signed_number_at (then_at signed_number_at depth_at))) bytes

-- all have a depth, or none has
abbrev pub are_alike : List Coord → Bool
are_alike values = list_all (λ value. is_some value.z) values || list_all (λ value. is_none value.z) values

unfoldable pub coords_at : Reader (List Coord)
coords_at bytes = that are_alike (counted_list_at coord_at) bytes
