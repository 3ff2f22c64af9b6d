-- The line of an item.
use Rattle.std.specs.Prelude.{ℕ, pos, List, [], ◌∷◌, ◌++◌, codes}
use Rattle.std.specs.List.{join_with_byte}
use Rattle.chart_model.specs.declared.drawing.Geom.{Geom}
use Rattle.chart_model.specs.declared.drawing.Geom.TheVariants.{Area, Line, Point}
use Rattle.chart_model.specs.declared.drawing.Item.{Item}
use Rattle.chart_model.specs.declared.drawing.Target.{Target}
use Rattle.chart_model.specs.declared.drawing.Target.TheVariants.{Whole, Edge, At}
use Rattle.text_scan.specs.Written.{decimal_of}

-- the decimal text of a number
abbrev pub number : ℕ → List ℕ
number n = decimal_of (pos n)

abbrev pub letter_of : Geom → List ℕ
letter_of Area = codes "A"
letter_of Line = codes "L"
letter_of Point = codes "P"

abbrev pub target_text : Target → List ℕ
target_text Whole = codes "whole"
target_text (Edge rcid) = join_with_byte 32 (codes "edge" ∷ number rcid ∷ [])
target_text (At x y) = join_with_byte 32 (codes "at" ∷ decimal_of x ∷ decimal_of y ∷ [])

-- the words of an item's line, parted by single spaces, and a line feed
abbrev pub item_line : ℕ → Geom → ℕ → Item → List ℕ
item_line priority geom rcid item =
    join_with_byte 32 (
    codes "item" ∷ number priority ∷ letter_of geom ∷ number rcid ∷ target_text item.target ∷ item.text ∷ []
    ) ++ 10 ∷ []
