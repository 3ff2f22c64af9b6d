-- All symbols, and what holds of them.
use Rattle.std.specs.Prelude.{◌≡◌, ℕ, Bool, true, false, not, ◌&&◌, ◌==◌, nat_eq, List, [], ◌∷◌, ◌++◌, map, codes}
use Rattle.std.specs.Prelude.{Option, Some, option_map}
use Rattle.std.specs.List.{list_all, list_any, flat_map, starts_with}
use Rattle.std.specs.Option.{option_map_or}
use Rattle.std.specs.Str.{bytes_eq}
use Rattle.std.specs.FinMap as finite
use Rattle.colour_table.specs.declared.swatch.Colour.{Colour}
use Rattle.colour_table.specs.declared.swatch.Swatch.{Swatch}
use Rattle.colour_table.specs.Named.{name_cmp}
use Rattle.colour_table.specs.Under.{colour_under}
use Rattle.chart_symbols.specs.declared.symbol.Symbol.{Symbol}
use Rattle.chart_symbols.specs.Digits.{digits_by}
use Rattle.chart_symbols.specs.Marks.{marks_by}

-- the digits of depths, and then the others
abbrev pub named_by : List Swatch → List (List ℕ × Symbol)
named_by colours = digits_by colours ++ marks_by colours

-- the same under their names
abbrev pub symbols_by : List Swatch → finite.FinMap name_cmp Symbol
symbols_by colours = finite.from_entries (named_by colours)

abbrev pub names_of : List (List ℕ × Symbol) → List (List ℕ)
names_of symbols = map (λ named. named.0) symbols

abbrev pub paths_of : List (List ℕ × Symbol) → List (List ℕ)
paths_of symbols = map (λ named. named.1.path) symbols

-- ---- names

-- none of the texts stands among those behind it
unfoldable pub are_distinct : List (List ℕ) → Bool
are_distinct [] = true
are_distinct (text ∷ more) = not (list_any (bytes_eq text) more) && are_distinct more

-- names with the token of the colour of each
abbrev pub in_colour : List ℕ → List (List ℕ) → List (List ℕ × List ℕ)
in_colour token names = map (λ name. (name, token)) names

-- a prefix with each cell, which is a place and a digit
abbrev pub cells_under : List ℕ → List (List ℕ)
cells_under prefix =
    flat_map (λ place. map (λ digit. prefix ++ place ∷ digit ∷ []) (codes "0123456789")) (codes "012345")

-- the names by which procedures call symbols, each with the token of its symbol's colour: depths up to the safety depth
-- are black and greater ones grey
unfoldable pub called : List (List ℕ × List ℕ)
called =
    in_colour (codes "SNDG2") (codes "SOUNDSA1" ∷ cells_under (codes "SOUNDS"))
    ++ in_colour (codes "SNDG1") (codes "SOUNDGA1" ∷ cells_under (codes "SOUNDG"))
    ++ in_colour (codes "ISDNG") (codes "ISODGR01" ∷ [])
    ++ in_colour (codes "CHGRD") (codes "DANGER02" ∷ [])
    ++ in_colour (codes "CHMGD") (codes "QUESMRK1" ∷ [])
    ++ in_colour (codes "CHBLK") (codes "DANGER01" ∷ codes "WRECKS01" ∷ codes "WRECKS04" ∷ codes "WRECKS05"
    ∷ codes "UWTROC03" ∷ codes "UWTROC04" ∷ codes "OBSTRN01" ∷ codes "OBSTRN03" ∷ [])

-- the colour of the symbol under a name
abbrev pub colour_named : List Swatch → List ℕ → Option Colour
colour_named colours name = option_map (λ symbol. symbol.colour) (finite.get (symbols_by colours) name)

-- the symbols that procedures call, each in the colour under its token
abbrev pub AreCalled : List Swatch → Type 0
AreCalled colours =
    map (λ named. colour_named colours named.0) called ≡ map (λ named. Some (colour_under colours named.1)) called

-- ---- where digits stand

-- the step from the place of a depth to the upper left corner of the digit at each place: from left to right `3`, `2`,
-- `1`, `0` and `4`, six units apart, and `5`, of tenths of a metre, three units below `0`
unfoldable pub steps : List (ℕ × List ℕ)
steps =
    (51, codes "m-17,-4") ∷ (50, codes "m-11,-4") ∷ (49, codes "m-5,-4") ∷ (48, codes "m1,-4") ∷ (52, codes "m7,-4")
    ∷ (53, codes "m1,-1") ∷ []

-- whether the path of a name begins with a step
abbrev pub begins : List Swatch → List ℕ → List ℕ → Bool
begins colours step name =
    option_map_or (λ symbol. starts_with nat_eq symbol.path step) (finite.find name_cmp name (named_by colours)) false

-- whether the digits at a place stand where its step leads, under both prefixes
abbrev pub stand_at : List Swatch → ℕ × List ℕ → Bool
stand_at colours step =
    list_all (λ digit. begins colours step.1 (codes "SOUNDS" ++ step.0 ∷ digit ∷ [])
    && begins colours step.1 (codes "SOUNDG" ++ step.0 ∷ digit ∷ [])) (codes "0123456789")

-- ---- paths

-- a relative command, or a byte of its numbers
abbrev pub is_path_byte : ℕ → Bool
is_path_byte byte = list_any (λ one. byte == one) (codes "achlmsv0123456789,-")

-- path data in relative commands alone
abbrev pub is_relative : List ℕ → Bool
is_relative path = list_all is_path_byte path
