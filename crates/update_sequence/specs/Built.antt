-- The chart that a data set builds on the one that is held.
use Rattle.std.specs.Prelude.{List, [], ◌∷◌, Option, Some, None, Result, Ok}
use Rattle.std.specs.Option.{option_map}
use Rattle.chart_model.specs.Answers.{unless, ◌>>=◌}
use Rattle.chart_model.specs.Cell.{CellValue, empty_cell}
use Rattle.chart_model.specs.Change.{Change}
use Rattle.chart_model.specs.Dataset.{DatasetValue}
use Rattle.chart_model.specs.declared.dataset.Header.{Header}
use Rattle.chart_closure.specs.Closed.{closure_fault}
use Rattle.update_apply.specs.Fault.{fault_of}
use Rattle.update_apply.specs.Changed.{cell_after}
use Rattle.update_sequence.specs.declared.fault.BuildFault.{BuildFault}
use Rattle.update_sequence.specs.declared.fault.BuildFault.TheVariants as of_build

-- key, agency and scale stay those of the base; edition, update and date of issue are the update's
abbrev pub header_after : Header → Header → Header
header_after base update = record base { edition = update.edition; update = update.update; issued = update.issued }

-- the chart before the first change: one without a record for a base file, and else the held one under its new header
abbrev pub begun : Option CellValue → Header → CellValue
begun None header = empty_cell header
begun (Some chart) header = record chart { header = header_after chart.header header }

-- the changes, one after the other, or the fault of the first that can't be made
unfoldable pub folded : CellValue → List Change → Result CellValue BuildFault
folded cell [] = Ok cell
folded cell (change ∷ rest) = do
  after ← unless (option_map of_build.Change (fault_of cell change)) (cell_after cell change)
  folded after rest

-- changes made of what others leave, or the fault of those
abbrev pub folded_after : Result CellValue BuildFault → List Change → Result CellValue BuildFault
folded_after made changes = do
  cell ← made
  folded cell changes

-- the chart that the last change leaves, where it is closed
unfoldable pub built : Option CellValue → DatasetValue → Result CellValue BuildFault
built chart dataset = do
  cell ← folded (begun chart dataset.header) dataset.changes
  unless (option_map of_build.Closure (closure_fault cell)) cell
