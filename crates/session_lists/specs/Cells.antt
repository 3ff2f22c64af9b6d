-- The line `cells`: a line for each cell that is held.
use Rattle.std.specs.Prelude.{ℕ, ◌+◌, List, [], ◌∷◌, length, codes, Option, Some, None}
use Rattle.std.specs.List.{flat_map}
use Rattle.std.specs.FinMap as map
use Rattle.chart_model.specs.Cell.{CellValue}
use Rattle.chart_model.specs.Keys.{key_cmp}
use Rattle.chart_model.specs.declared.state.Holding.{Holding}
use Rattle.script_reader.specs.Reply.{number, line_of}
use Rattle.script_reader.specs.declared.reply.Reply.{Reply}
use Rattle.script_reader.specs.declared.reply.Reply.TheVariants.{Cells}

-- the number of vector and feature records
abbrev pub records_of : CellValue → ℕ
records_of chart = map.len chart.vectors + map.len chart.features

-- a cancelled cell has no chart
abbrev pub chart_word : Option CellValue → List ℕ
chart_word None = codes "cancelled"
chart_word (Some chart) = number (records_of chart)

-- `cell KEY EDITION UPDATE FILES RECORDS`
abbrev pub cell_line : List ℕ → Holding → List ℕ
cell_line key here = line_of (codes "cell" ∷ key ∷ number here.held.edition ∷ number here.held.update
    ∷ number (length here.files) ∷ chart_word here.chart ∷ [])

-- the lines, in the order of the keys
abbrev pub cell_lines : map.FinMap key_cmp Holding → List ℕ
cell_lines cells = flat_map (λ (entry : List ℕ × Holding). cell_line entry.0 entry.1) (map.entries cells)

-- their number and their lines, as a reply
abbrev pub cells_reply : map.FinMap key_cmp Holding → Reply
cells_reply cells = Cells (map.len cells) (cell_lines cells)
