-- The symbols other than digits, by their table.
use Rattle.std.specs.Prelude.{ℕ, List, map}
use Rattle.colour_table.specs.declared.swatch.Swatch.{Swatch}
use Rattle.colour_table.specs.Under.{colour_under}
use Rattle.chart_symbols.specs.declared.marks.TheConstants.{MARKS}
use Rattle.chart_symbols.specs.declared.symbol.Symbol.{Symbol}

-- this name, and the symbol of this path in the colour under a token
unfoldable pub mark_symbol : List Swatch → List ℕ → List ℕ → List ℕ → List ℕ × Symbol
mark_symbol colours name path token = (name, record { path = path; colour = colour_under colours token })

unfoldable pub marks_by : List Swatch → List (List ℕ × Symbol)
marks_by colours = map (λ mark. mark_symbol colours mark.0 mark.1.now mark.2.now) MARKS
