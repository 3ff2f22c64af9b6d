-- How an element is spelled in SVG 1.1.
use Rattle.std.specs.Prelude.{ℕ, ◌+◌, ◌-◌, ◌/◌, ◌%◌, nat_lt, if◌then◌else◌, pos, List, [], ◌∷◌, ◌++◌, codes}
use Rattle.text_scan.specs.Written.{decimal_of}
use Rattle.chart_svg.specs.declared.element.Element.{Element}
use Rattle.chart_svg.specs.declared.element.Origin.{Origin}
use Rattle.chart_svg.specs.declared.element.Origin.TheVariants.{FromItem, FromLeg, FromDanger}
use Rattle.chart_svg.specs.declared.figure.Dash.{Dash}
use Rattle.chart_svg.specs.declared.figure.Dash.TheVariants.{Solid, Dashed, Dotted}
use Rattle.chart_svg.specs.declared.figure.Figure.{Figure}
use Rattle.chart_svg.specs.declared.figure.Figure.TheVariants.{Area, Lines, Symbols, Boxes}
use Rattle.chart_svg.specs.declared.figure.Fill.{Fill}
use Rattle.chart_svg.specs.declared.figure.Fill.TheVariants.{Flat, Hatched, Sheer}
use Rattle.chart_svg.specs.declared.figure.Pen.{Pen}
use Rattle.colour_table.specs.declared.swatch.Colour.{Colour}
use Rattle.chart_svg.specs.Escape.{escaped}
use Rattle.chart_svg.specs.Outline.{outlines_text, marks_text}

-- the decimal text of a number
abbrev pub number : ℕ → List ℕ
number n = decimal_of (pos n)

-- an attribute: how it begins, its value and a quotation mark
unfoldable pub attribute : List ℕ → List ℕ → List ℕ
attribute opening value = opening ++ value ++ 34 ∷ []

-- ---- where it comes from

unfoldable pub row_text : ℕ → List ℕ → ℕ → ℕ → List ℕ
row_text leg key rcid place =
    attribute (codes " data-leg=\"") (number leg)
    ++ attribute (codes " data-cell=\"") (escaped key)
    ++ attribute (codes " data-feature=\"") (number rcid)
    ++ attribute (codes " data-place=\"") (number place)

unfoldable pub source_text : List ℕ → ℕ → List ℕ → List ℕ
source_text key rcid text =
    attribute (codes " data-cell=\"") (escaped key)
    ++ attribute (codes " data-feature=\"") (number rcid)
    ++ attribute (codes " data-instruction=\"") (escaped text)

abbrev pub origin_text : Origin → List ℕ
origin_text (FromItem key rcid text) = source_text key rcid text
origin_text (FromLeg leg) = attribute (codes " data-leg=\"") (number leg)
origin_text (FromDanger danger) = row_text danger.leg danger.key danger.rcid danger.place

-- ---- what is drawn

-- a hexadecimal digit: `0` to `9`, and `a` to `f`
abbrev pub hex_digit : ℕ → ℕ
hex_digit n = if nat_lt n 10 then 48 + n else 97 + (n - 10)

-- red, green and blue, each by two hexadecimal digits
unfoldable pub colour_text : Colour → List ℕ
colour_text colour =
    35 ∷ hex_digit (colour.red / 16) ∷ hex_digit (colour.red % 16)
    ∷ hex_digit (colour.green / 16) ∷ hex_digit (colour.green % 16)
    ∷ hex_digit (colour.blue / 16) ∷ hex_digit (colour.blue % 16) ∷ []

abbrev pub dash_text : Dash → List ℕ
dash_text Solid = []
dash_text Dashed = codes " stroke-dasharray=\"6,4\""
dash_text Dotted = codes " stroke-dasharray=\"1,3\""

unfoldable pub stroke_text : Colour → List ℕ
stroke_text colour = attribute (codes " stroke=\"") (colour_text colour)

-- through a sheer colour what is below shows; its rings are lines in that colour
unfoldable pub fill_text : Fill → List ℕ
fill_text (Flat colour) = attribute (codes " fill=\"") (colour_text colour)
fill_text Hatched = codes " fill=\"url(#hatching)\""
fill_text (Sheer colour) =
    attribute (codes " fill=\"") (colour_text colour) ++ codes " fill-opacity=\"0.15\"" ++ stroke_text colour

unfoldable pub pen_text : Pen → List ℕ
pen_text pen =
    stroke_text pen.colour ++ attribute (codes " stroke-width=\"") (number pen.width) ++ dash_text pen.dash

-- a small box
abbrev pub box_path : List ℕ
box_path = codes "m-3,-3l6,0l0,6l-6,0z"

-- all rings of an area are one path by the even-odd rule
unfoldable pub figure_text : Figure → List ℕ
figure_text (Area rings fill) =
    attribute (codes " d=\"") (outlines_text (codes "Z") rings) ++ codes " fill-rule=\"evenodd\"" ++ fill_text fill
figure_text (Lines lines pen) = attribute (codes " d=\"") (outlines_text [] lines) ++ pen_text pen
figure_text (Symbols spots path colour) =
    attribute (codes " d=\"") (marks_text (escaped path) spots) ++ stroke_text colour
figure_text (Boxes spots) = attribute (codes " d=\"") (marks_text (escaped box_path) spots) ++ codes " stroke=\"black\""

-- ---- its title

unfoldable pub title_text : List ℕ → List ℕ
title_text text = codes "><title>" ++ escaped text ++ codes "</title></path>"

-- a box has the instruction as its title
abbrev pub end_text : Origin → Figure → List ℕ
end_text (FromItem key rcid text) (Boxes spots) = title_text text
end_text (FromItem key rcid text) (Area rings fill) = codes "/>"
end_text (FromItem key rcid text) (Lines lines pen) = codes "/>"
end_text (FromItem key rcid text) (Symbols spots path colour) = codes "/>"
end_text (FromLeg leg) figure = codes "/>"
end_text (FromDanger danger) figure = codes "/>"

-- an element on a line of its own
unfoldable pub element_text : Element → List ℕ
element_text element =
    codes "<path" ++ origin_text element.origin ++ figure_text element.figure
    ++ end_text element.origin element.figure ++ 10 ∷ []
