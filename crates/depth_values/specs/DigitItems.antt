-- The symbols of a depth's digits.
use Rattle.std.specs.Prelude.{ℕ, ℤ, List, ◌++◌, map, codes}
use Rattle.chart_model.specs.declared.drawing.Item.{Item}
use Rattle.chart_model.specs.declared.drawing.Target.{Target}
use Rattle.draw_items.specs.Items.{item}
use Rattle.depth_values.specs.Digits.{prefix_of, cells_of}

-- the instruction that draws the symbol of a cell
abbrev pub symbol_text : List ℕ → List ℕ → List ℕ
symbol_text prefix cell = codes "SY(" ++ (prefix ++ (cell ++ codes ")"))

-- a symbol for each cell of the depth, each at the target
abbrev pub digit_items : Target → ℤ → ℤ → List Item
digit_items target depth safety_depth =
    map (λ cell. item target (symbol_text (prefix_of depth safety_depth) cell)) (cells_of depth)
