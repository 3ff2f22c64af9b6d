-- What whole files leave, one after the other from nothing: the held numbers, and the chart.
use Rattle.std.specs.Prelude.{ℕ, true, false, if◌then◌else◌, List, fold, sum_by, Option, Some, None}
use Rattle.std.specs.Option.{option_map, option_and_then}
use Rattle.std.specs.Result.{result_ok}
use Rattle.chart_model.specs.Cell.{CellValue}
use Rattle.chart_model.specs.Dataset.{DatasetValue}
use Rattle.chart_model.specs.declared.dataset.Header.{Header}
use Rattle.chart_model.specs.declared.state.Held.{Held}
use Rattle.iso8211_records.specs.RecordFile.{data_records_in}
use Rattle.update_sequence.specs.Reading.{tags_read, data_set_in}
use Rattle.update_sequence.specs.Built.{built}

-- the chart after one more data set: one that cancels leaves none
abbrev pub chart_with : Option CellValue → DatasetValue → Option CellValue
chart_with chart dataset = if dataset.cancels then None else result_ok (built chart dataset)

-- the chart after one more file
abbrev pub chart_after : Option CellValue → List ℕ → Option CellValue
chart_after chart file = option_and_then (chart_with chart) (result_ok (data_set_in file))

-- the chart that the files build
unfoldable pub rebuilt : List (List ℕ) → Option CellValue
rebuilt files = fold chart_after None files

-- the held numbers of a file that doesn't cancel
abbrev pub numbers_of : Header → Held
numbers_of header = record { edition = header.edition; update = header.update; cancelled = false }

abbrev pub cancelled_numbers : Held → Held
cancelled_numbers held = record held { cancelled = true }

-- the held numbers after one more data set: one that cancels leaves edition and update as they were
abbrev pub held_with : Option Held → DatasetValue → Option Held
held_with held dataset = if dataset.cancels then option_map cancelled_numbers held else Some (numbers_of dataset.header)

-- the held numbers after one more file
abbrev pub held_after : Option Held → List ℕ → Option Held
held_after held file = option_and_then (held_with held) (result_ok (data_set_in file))

-- the held numbers that the files leave: those of the last that doesn't cancel
unfoldable pub held_by : List (List ℕ) → Option Held
held_by files = fold held_after None files

-- how many data records the files have
abbrev pub data_records_of : List (List ℕ) → ℕ
data_records_of files = sum_by (data_records_in tags_read) files
