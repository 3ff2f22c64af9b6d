-- The lines of a drawing.
use Rattle.std.specs.Prelude.{ℕ, List, length, sum_by}
use Rattle.std.specs.List.{flat_map}
use Rattle.draw_list.specs.declared.drawing.Drawn.{Drawn}
use Rattle.draw_list.specs.Print.{item_line}

-- the number of the items of all its blocks
abbrev pub items_in : List Drawn → ℕ
items_in drawing = sum_by (λ drawn. length drawn.block.items) drawing

-- the lines of a block's items, one after the other
abbrev pub block_lines : Drawn → List ℕ
block_lines drawn = flat_map (item_line drawn.block.priority drawn.block.geom drawn.rcid) drawn.block.items

-- the lines of all its blocks, one after the other
abbrev pub lines_of : List Drawn → List ℕ
lines_of drawing = flat_map block_lines drawing
