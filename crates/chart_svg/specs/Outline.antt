-- Path data: where lines go.
use Rattle.std.specs.Prelude.{ℕ, List, [], ◌∷◌, ◌++◌}
use Rattle.std.specs.List.{flat_map}
use Rattle.text_scan.specs.Written.{decimal_of}
use Rattle.chart_svg.specs.declared.view.Spot.{Spot}

-- a command with a place: its letter, x, a comma and y
abbrev pub step_text : ℕ → Spot → List ℕ
step_text letter spot = letter ∷ decimal_of spot.x ++ 44 ∷ decimal_of spot.y

-- to the first place (M), from there by straight lines to each other (L), and what ends it
abbrev pub outline_text : List ℕ → List Spot → List ℕ
outline_text ending [] = []
outline_text ending (first ∷ rest) = step_text 77 first ++ flat_map (step_text 76) rest ++ ending

-- several, one after the other
abbrev pub outlines_text : List ℕ → List (List Spot) → List ℕ
outlines_text ending lines = flat_map (outline_text ending) lines

-- path data from each of some places on
abbrev pub mark_text : List ℕ → Spot → List ℕ
mark_text path spot = step_text 77 spot ++ path

abbrev pub marks_text : List ℕ → List Spot → List ℕ
marks_text path spots = flat_map (mark_text path) spots
