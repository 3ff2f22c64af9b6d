-- A whole document.
use Rattle.std.specs.Prelude.{ℕ, pos, List, ◌∷◌, ◌++◌, codes}
use Rattle.std.specs.List.{flat_map}
use Rattle.text_scan.specs.Written.{decimal_of}
use Rattle.chart_svg.specs.declared.element.Element.{Element}
use Rattle.chart_svg.specs.declared.view.View.{View}
use Rattle.chart_svg.specs.View.{height_of}
use Rattle.chart_svg.specs.Spelling.{element_text}

-- what it is, and that it is no chart to navigate by
unfoldable pub opening : List ℕ
opening =
    codes "<?xml version=\"1.0\" encoding=\"UTF-8\"?>\n"
    ++ codes "<svg xmlns=\"http://www.w3.org/2000/svg\" version=\"1.1\" fill=\"none\" viewBox=\"0 0 "

unfoldable pub preface : List ℕ
preface =
    codes "\">\n<title>Not for navigation</title>\n"
    ++ codes "<defs><pattern id=\"hatching\" width=\"8\" height=\"8\" patternUnits=\"userSpaceOnUse\">"
    ++ codes "<path d=\"M0,8L8,0\" stroke=\"gray\"/></pattern></defs>\n"

-- how wide and how high it is stands between
unfoldable pub head_text : View → List ℕ
head_text view = opening ++ decimal_of (pos view.width) ++ 32 ∷ decimal_of (height_of view) ++ preface

-- the head, the elements in their order, and the end
abbrev pub document_text : View → List Element → List ℕ
document_text view elements = head_text view ++ flat_map element_text elements ++ codes "</svg>\n"
