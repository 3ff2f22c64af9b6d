-- The colour under a token.
use Rattle.std.specs.Prelude.{ℕ, Bool, List, map, find, option_map, unwrap_or}
use Rattle.std.specs.Str.{bytes_eq}
use Rattle.colour_table.specs.declared.swatch.Colour.{Colour}
use Rattle.colour_table.specs.declared.swatch.Swatch.{Swatch}
use Rattle.std.specs.FinMap as finite
use Rattle.colour_table.specs.Named.{name_cmp}

abbrev pub magenta : Colour
magenta = record { red = 255; green = 0; blue = 255 }

abbrev pub is_under : List ℕ → Swatch → Bool
is_under token swatch = bytes_eq swatch.token token

-- the first colour under a token, or magenta
abbrev pub colour_under : List Swatch → List ℕ → Colour
colour_under colours token = unwrap_or (option_map (λ swatch. swatch.colour) (find (is_under token) colours)) magenta

-- ---- the same by a finite map

abbrev pub under_token : Swatch → List ℕ × Colour
under_token swatch = (swatch.token, swatch.colour)

-- the first colour under each token
abbrev pub colours_by_token : List Swatch → finite.FinMap name_cmp Colour
colours_by_token colours = finite.from_entries (map under_token colours)

-- the colour under a token, or magenta
abbrev pub colour_in : finite.FinMap name_cmp Colour → List ℕ → Colour
colour_in colours token = unwrap_or (finite.get colours token) magenta
