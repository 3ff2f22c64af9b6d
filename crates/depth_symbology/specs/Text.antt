-- Instructions.
use Rattle.std.specs.Prelude.{ℕ, List, ◌++◌, codes}

-- a line along an edge: its style, and its width and colour
abbrev pub line_text : List ℕ → List ℕ → List ℕ
line_text style rest = codes "LS(" ++ (style ++ (codes "," ++ (rest ++ codes ")")))

-- the colour of an area
abbrev pub colour_text : List ℕ → List ℕ
colour_text colour = codes "AC(" ++ (colour ++ codes ")")
