-- The line `draw`: a line for each instruction of a drawing.
use Rattle.std.specs.Prelude.{ℕ, List}
use Rattle.chart_model.specs.Cell.{CellValue}
use Rattle.chart_model.specs.declared.settings.Settings.{Settings}
use Rattle.draw_list.specs.Drawing.{drawing_of}
use Rattle.draw_list.specs.Lines.{items_in, lines_of}
use Rattle.draw_list.specs.declared.drawing.Drawn.{Drawn}
use Rattle.lookup_table.specs.declared.line.TableLine.{TableLine}
use Rattle.script_reader.specs.declared.reply.Reply.{Reply}
use Rattle.script_reader.specs.declared.reply.Reply.TheVariants.{Draw}

-- a drawing as a reply: the number of its instructions, and a line for each
abbrev pub drawing_reply : List ℕ → List Drawn → Reply
drawing_reply key drawing = Draw key (items_in drawing) (lines_of drawing)

-- the drawing of the chart that is held under this key
abbrev pub draw_reply : List TableLine → Settings → List ℕ → CellValue → Reply
draw_reply table settings key chart = drawing_reply key (drawing_of chart table settings)
