-- Why the catalogue or the table is not taken, and how the run ends then.
use Rattle.std.specs.Prelude.{◌≡◌, ℕ, List, Option, Some, None, Result}
use Rattle.chart_model.specs.Answers as answers
use Rattle.chart_ports.specs.declared.shelf.ShelfError.{ShelfError}
use Rattle.chart_ports.specs.declared.shelf.ShelfError.TheVariants as of_shelf
use Rattle.lookup_table.specs.declared.line.TableLine.{TableLine}
use Rattle.ecdis_cli.specs.Tables.{TablesEnd}
use Rattle.ecdis_cli.specs.declared.run.file_stop.FileStop.{FileStop}
use Rattle.ecdis_cli.specs.declared.run.file_stop.FileStop.TheVariants.{Fault, ShelfFault, NoMemory}
use Rattle.ecdis_cli.specs.declared.run.status.Status.{Status}
use Rattle.ecdis_cli.specs.declared.run.status.Status.TheVariants as status
use Rattle.ecdis_cli.specs.declared.run.tables_fault.TablesFault.{TablesFault}

-- what is wrong with the file; a fault of the shelf and want of memory tell nothing of it
abbrev pub fault_of_stop : FileStop → Option TablesFault
fault_of_stop (Fault fault) = Some fault
fault_of_stop ShelfFault = None
fault_of_stop NoMemory = None

-- the answer is what was to be answered, unless the shelf failed or memory ran out
abbrev pub Gives : {X : Type 0} → Result X FileStop → Result X TablesFault → Type 0
Gives answer wanted = answers.Gives fault_of_stop answer wanted

-- a fetch that fails, and a file that isn't read

abbrev pub stop_of_shelf : ShelfError → FileStop
stop_of_shelf of_shelf.Failed = ShelfFault
stop_of_shelf of_shelf.NoMemory = NoMemory

abbrev pub stop_of : Option TablesFault → FileStop
stop_of (Some fault) = Fault fault
stop_of None = NoMemory

-- ---- the run

-- how it ends, by the number of the file
abbrev pub status_of_file : ℕ → FileStop → Status
status_of_file which (Fault fault) = status.Tables which fault
status_of_file which ShelfFault = status.ShelfFault
status_of_file which NoMemory = status.NoMemory

-- it ended at the catalogue or at the table
abbrev pub EndsAtFile : Status → Type 0
EndsAtFile ended = (which : ℕ) × (stop : FileStop) × (ended ≡ status_of_file which stop)

-- which file it ends with, and what is wrong with that
abbrev pub end_of : Status → Option TablesEnd
end_of (status.Tables which fault) = Some (record { which = which; fault = fault })
end_of other = None

-- the table is the one that was to be read, or the run ends as it was to, unless the shelf failed or memory ran out
abbrev pub GivesTable : Result (List TableLine) Status → Result (List TableLine) TablesEnd → Type 0
GivesTable answer wanted = answers.Gives end_of answer wanted
