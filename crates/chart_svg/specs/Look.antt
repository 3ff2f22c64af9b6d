-- What pictures are drawn with.
use Rattle.std.specs.Prelude.{ℕ, List, Option}
use Rattle.std.specs.FinMap as finite
use Rattle.colour_table.specs.declared.swatch.Colour.{Colour}
use Rattle.colour_table.specs.Under.{colour_in}
use Rattle.chart_symbols.specs.declared.symbol.Symbol.{Symbol}
use Rattle.chart_svg.specs.declared.look.Look.{Look}

-- the colour under a token, or magenta
abbrev pub colour_of : Look → List ℕ → Colour
colour_of look token = colour_in look.colours token

-- the symbol under a name
abbrev pub symbol_of : Look → List ℕ → Option Symbol
symbol_of look name = finite.get look.symbols name
