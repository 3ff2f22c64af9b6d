-- Cells.
use Rattle.std.specs.Prelude.{ℕ, ◌<◌, ◌^◌, ◌==◌, Bool, not, List, ◌++◌, length, Option, IfSome}
use Rattle.chart_model.specs.declared.state.Held.{Held}
use Rattle.chart_model.specs.declared.state.Holding.{Holding}
use Rattle.chart_model.specs.Cell.{CellValue}
use Rattle.page_parts.specs.Reader.{Reader, seen_as, that, then_at, then_by}
use Rattle.page_parts.specs.Texts.{file_at, text}
use Rattle.page_parts.specs.Lists.{counted_list, counted_list_at}
use Rattle.chart_pages.specs.Held.{held_at, held_numbers, key_at}
use Rattle.chart_pages.specs.Charts.{IsChartInRange, optional_chart, optional_chart_at}

-- the key as a text, the numbers that are held, the files as texts, and the chart where there is one
unfoldable pub cell : List ℕ × Holding → List ℕ
cell entry =
    text entry.0 ++ held_numbers entry.1.held ++ counted_list text entry.1.files ++ optional_chart entry.1.chart

-- the number of files and the chart's numbers are within their widths
pub record IsCellInRange (entry : List ℕ × Holding) : Type 0 where
  pub files : length entry.1.files < 2 ^ 64
  pub chart : IfSome entry.1.chart IsChartInRange

-- ---- read

-- whether there is a file
abbrev pub has_files : List (List ℕ) → Bool
has_files files = not (length files == 0)

unfoldable pub files_at : Reader (List (List ℕ))
files_at bytes = that has_files (counted_list_at file_at) bytes

abbrev pub cell_of : (List ℕ × (Held × List (List ℕ))) × Option CellValue → List ℕ × Holding
cell_of fields = (fields.0.0, record { held = fields.0.1.0; files = fields.0.1.1; chart = fields.1 })

unfoldable pub cell_at : Reader (List ℕ × Holding)
cell_at bytes =
    seen_as cell_of
    (then_by (then_at key_at (then_at held_at files_at)) (λ head. optional_chart_at head.0 head.1.0))
    bytes
