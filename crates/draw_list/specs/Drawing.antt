-- The drawing of a cell.
use Rattle.std.specs.Prelude.{ℕ, if◌then◌else◌, List, [], ◌∷◌, Option, Some, None}
use Rattle.std.specs.List.{flat_map, fold}
use Rattle.std.specs.List.Sorted.{IsPermutation, IsSorted}
use Rattle.std.specs.Ordering.{ordering_then, nat_cmp, is_gt}
use Rattle.std.specs.declared.cmp.Ordering.{Ordering}
use Rattle.std.specs.FinMap as map
use Rattle.chart_model.specs.Cell.{CellValue}
use Rattle.chart_model.specs.declared.cell.Feature.{Feature}
use Rattle.chart_model.specs.declared.drawing.Block.{Block}
use Rattle.chart_model.specs.declared.drawing.Geom.{Geom}
use Rattle.chart_model.specs.declared.drawing.Geom.TheVariants.{Area, Line, Point}
use Rattle.chart_model.specs.declared.name.Name.{Name}
use Rattle.chart_model.specs.declared.settings.Settings.{Settings}
use Rattle.lookup_table.specs.declared.line.TableLine.{TableLine}
use Rattle.draw_list.specs.declared.drawing.Drawn.{Drawn}
use Rattle.draw_list.specs.declared.drawing.DrawOrder.{DrawOrder}
use Rattle.draw_list.specs.Block.{block_in}

-- the feature's block under its number, where it is shown
abbrev pub drawn_with : ℕ → Option Block → List Drawn
drawn_with rcid None = []
drawn_with rcid (Some block) = record { rcid = rcid; block = block } ∷ []

abbrev pub drawn_of : CellValue → List TableLine → Settings → Name × Feature → List Drawn
drawn_of cell table settings entry = drawn_with entry.0.rcid (block_in cell table settings entry.1)

-- the blocks of all features of the cell that are shown
abbrev pub blocks_in : CellValue → List TableLine → Settings → List Drawn
blocks_in cell table settings = flat_map (drawn_of cell table settings) (map.entries cell.features)

-- areas are drawn before lines, and lines before points
abbrev pub rank_of : Geom → ℕ
rank_of Area = 0
rank_of Line = 1
rank_of Point = 2

-- by priority, then by geometry, then by the feature's number
abbrev pub drawn_cmp : Drawn → Drawn → Ordering
drawn_cmp x y =
    ordering_then (nat_cmp x.block.priority y.block.priority)
    (ordering_then (nat_cmp (rank_of x.block.geom) (rank_of y.block.geom)) (nat_cmp x.rcid y.rcid))

-- the same blocks, in that order
pub record IsDrawing (cell : CellValue) (table : List TableLine) (settings : Settings) (drawing : List Drawn)
    : Type 0 where
  pub all : IsPermutation (blocks_in cell table settings) drawing
  pub ordered : IsSorted drawn_cmp drawing

-- ---- as a function

-- a block put among others in order, before the first that it doesn't stand behind
abbrev pub put_among : Drawn → List Drawn → List Drawn
put_among drawn [] = drawn ∷ []
put_among drawn (next ∷ rest) =
    if is_gt (drawn_cmp drawn next) then next ∷ put_among drawn rest else drawn ∷ next ∷ rest

-- the blocks of all features that are shown, each put among those before it
abbrev pub drawing_of : CellValue → List TableLine → Settings → List Drawn
drawing_of cell table settings = fold (λ drawing drawn. put_among drawn drawing) [] (blocks_in cell table settings)

-- what the code orders a block by
abbrev pub key_of : Drawn → DrawOrder
key_of drawn = record { priority = drawn.block.priority; geom = drawn.block.geom; rcid = drawn.rcid }
