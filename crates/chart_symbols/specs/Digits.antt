-- The symbols of digits, by the tables of prefixes, places and digits.
use Rattle.std.specs.Prelude.{ℕ, List, [], ◌∷◌, ◌++◌, map, codes}
use Rattle.std.specs.List.{flat_map}
use Rattle.colour_table.specs.declared.swatch.Colour.{Colour}
use Rattle.colour_table.specs.declared.swatch.Swatch.{Swatch}
use Rattle.colour_table.specs.Under.{colour_under}
use Rattle.chart_symbols.specs.declared.digits.TheConstants.{PLACES, DIGITS}
use Rattle.chart_symbols.specs.declared.symbol.Symbol.{Symbol}

-- a digit in its cell: its name is the prefix and the cell, its path the step to the place and the strokes
abbrev pub digit_symbol : List ℕ → Colour → List ℕ → List ℕ → List ℕ → List ℕ × Symbol
digit_symbol prefix colour cell step strokes =
    (prefix ++ cell, record { path = step ++ strokes; colour = colour })

-- all digits at a place, to which a step leads
unfoldable pub digits_at : List ℕ → Colour → ℕ → List ℕ → List (List ℕ × Symbol)
digits_at prefix colour place step =
    map (λ digit. digit_symbol prefix colour (place ∷ digit.0 ∷ []) step digit.1.now) DIGITS

-- the same under both prefixes: of depths up to the safety depth, and of greater ones
unfoldable pub prefixed_at : List Swatch → ℕ → List ℕ → List (List ℕ × Symbol)
prefixed_at colours place step =
    digits_at (codes "SOUNDS") (colour_under colours (codes "SNDG2")) place step
    ++ digits_at (codes "SOUNDG") (colour_under colours (codes "SNDG1")) place step

-- all digits at all places
unfoldable pub digits_by : List Swatch → List (List ℕ × Symbol)
digits_by colours = flat_map (λ place. prefixed_at colours place.0 place.1.now) PLACES
