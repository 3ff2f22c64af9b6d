-- The view that words name.
use Rattle.std.specs.Prelude.{ℕ, ◌==◌, nat_lt, ◌&&◌, if◌then◌else◌, ℤ, pos, negsuc, int_le, int_lt, List, [], ◌∷◌}
use Rattle.std.specs.Prelude.{Option, Some, None, option_map}
use Rattle.std.specs.Option.{option_and_then}
use Rattle.text_scan.specs.Number.{signed_of}
use Rattle.chart_svg.specs.declared.view.View.{View}
use Rattle.command_words.specs.Reading.{◌>>=◌}

-- its borders, and how many units it is wide
pub record ViewValue : Type 0 where
  pub west : ℤ
  pub south : ℤ
  pub east : ℤ
  pub north : ℤ
  pub width : ℕ

abbrev pub value_of_view : View → ViewValue
value_of_view view = record {
  west = view.west;
  south = view.south;
  east = view.east;
  north = view.north;
  width = view.width;
}

-- one that 32 bits hold
abbrev pub in_32_bits : ℤ → Option ℤ
in_32_bits z = if int_le (negsuc 2147483647) z && int_le z (pos 2147483647) then Some z else None

-- the longitude or latitude that a marked word is
unfoldable pub border_of : List ℕ → Option ℤ
border_of [] = None
border_of (mark ∷ text) = if mark == 61 then option_and_then in_32_bits (signed_of text) else None

-- one that has a width and a height, and is some units wide
abbrev pub if_shown : ViewValue → Option ViewValue
if_shown view =
    if int_lt view.west view.east && (int_lt view.south view.north && nat_lt 0 view.width) then Some view else None

-- the view of four marked words
abbrev pub view_between : ℕ → List ℕ → List ℕ → List ℕ → List ℕ → Option ViewValue
view_between width west south east north = do
  west ← border_of west
  south ← border_of south
  east ← border_of east
  north ← border_of north
  if_shown (record { west = west; south = south; east = east; north = north; width = width })

unfoldable pub view_of : ℕ → List (List ℕ) → Option ViewValue
view_of width [] = None
view_of width (west ∷ []) = None
view_of width (west ∷ south ∷ []) = None
view_of width (west ∷ south ∷ east ∷ []) = None
view_of width (west ∷ south ∷ east ∷ north ∷ []) = view_between width west south east north
view_of width (west ∷ south ∷ east ∷ north ∷ other ∷ more) = None
