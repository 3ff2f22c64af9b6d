-- How an instruction draws.
use Rattle.std.specs.Prelude.{ℕ, ◌-◌, List, [], ◌∷◌, ◌++◌, length, take, drop, codes, if◌then◌else◌}
use Rattle.std.specs.Prelude.{Option, Some, None, option_map, option_and_then}
use Rattle.std.specs.Str.{bytes_eq}
use Rattle.text_lines.specs.Lines.{parts_at}
use Rattle.text_scan.specs.Number.{number_of}
use Rattle.chart_svg.specs.declared.figure.Dash.{Dash}
use Rattle.chart_svg.specs.declared.figure.Dash.TheVariants.{Solid, Dashed, Dotted}
use Rattle.chart_svg.specs.declared.figure.Fill.{Fill}
use Rattle.chart_svg.specs.declared.figure.Fill.TheVariants.{Flat, Hatched}
use Rattle.chart_svg.specs.declared.figure.Pen.{Pen}
use Rattle.chart_svg.specs.declared.look.Look.{Look}
use Rattle.chart_symbols.specs.declared.symbol.Symbol.{Symbol}
use Rattle.chart_svg.specs.Look.{colour_of, symbol_of}

-- a text without so many bytes in front and without its last
abbrev pub inner_of : ℕ → List ℕ → List ℕ
inner_of front text = drop front (take (length text - 1) text)

-- what stands between an opening and a closing parenthesis, where the text is these three
unfoldable pub argument_of : List ℕ → List ℕ → Option (List ℕ)
argument_of opening text =
    let inner = inner_of (length opening) text in
    if bytes_eq text (opening ++ inner ++ 41 ∷ []) then Some inner else None

-- ---- areas

abbrev pub fill_with : Look → Option (List ℕ) → Option (List ℕ) → Option Fill
fill_with look (Some token) pattern = Some (Flat (colour_of look token))
fill_with look None (Some pattern) = Some Hatched
fill_with look None None = None

-- what fills an area: the colour of `AC(TOKEN)`, or hatching for `AP(PATTERN)`
abbrev pub fill_of : Look → List ℕ → Option Fill
fill_of look text = fill_with look (argument_of (codes "AC(") text) (argument_of (codes "AP(") text)

-- ---- lines

abbrev pub dash_of : List ℕ → Dash
dash_of style =
    if bytes_eq style (codes "DASH") then Dashed
    else if bytes_eq style (codes "DOTT") then Dotted
    else Solid

abbrev pub pen_with : Look → List ℕ → List ℕ → Option ℕ → Option Pen
pen_with look style token None = None
pen_with look style token (Some width) =
    Some (record { colour = colour_of look token; width = width; dash = dash_of style })

unfoldable pub pen_by : Look → List (List ℕ) → Option Pen
pen_by look [] = None
pen_by look (style ∷ []) = None
pen_by look (style ∷ width ∷ []) = None
pen_by look (style ∷ width ∷ token ∷ []) = pen_with look style token (number_of width)
pen_by look (style ∷ width ∷ token ∷ other ∷ more) = None

-- what a line is drawn with: the style, the width and the colour of `LS(STYLE,WIDTH,TOKEN)`
abbrev pub pen_of : Look → List ℕ → Option Pen
pen_of look text = option_and_then (λ inner. pen_by look (parts_at 44 inner)) (argument_of (codes "LS(") text)

-- ---- symbols

-- the symbol of `SY(NAME)`, where it was handed in
abbrev pub drawn_symbol : Look → List ℕ → Option Symbol
drawn_symbol look text = option_and_then (symbol_of look) (argument_of (codes "SY(") text)
